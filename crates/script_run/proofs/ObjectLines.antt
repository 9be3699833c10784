-- The objects' lines, one after another.
use Rattle.std.proofs.Common.{◌≡◌, ℕ, ◌+◌, ◌<◌, List, [], ◌∷◌, ◌++◌, length, map, take, drop, get_or, Option, Some, None, Result, Ok, Err, refl, sym, ap, ◌∙◌, subst, append-nil, arith}
use Rattle.std.proofs.lemmas.List.{map-append, take_more, take-append-drop}
use Rattle.outputs.specs.Out.{Puts}
use Rattle.outputs.specs.declared.out.OutFault.{OutFault}
use Rattle.store_laws.specs.Stored.{Stored}
use Rattle.store_text.specs.declared.line.ObjectLine.{ObjectLine}
use Rattle.script_run.specs.Turns.{line_of, object_turn, size_turn}
use Rattle.script_run.specs.Runs.{Writes}
use Rattle.script_run.proofs.Turns.{join, stop, one_turn}
use Rattle.line_text.specs.Spelling.{text_of}
use Rattle.store_text.specs.Kept.{size_lines}
use Rattle.store_text.specs.declared.line.Line.TheVariants.{Objects}
use Rattle.history_text.specs.Canonical.{words_of}

-- ---- how many there may be

-- the line that says it, where there is one
pub size-written : (s : Stored) (size : Option ℕ) {a b : Option (List ℕ)} {f : Option OutFault} {result : Result (Unit {0}) OutFault}
    → Puts a b f (text_of words_of (size_lines size)) result → Writes s (map (size_turn s.history) (size_lines size)) a b f s result
size-written s None {result = Ok done} p = record { written = record { bytes = p.whole; store = refl }; fault_is = p.fault_is }
size-written s None {result = Err e} p = let (n, short, bytes) = p.beginning in absurd (omega (arith, short))
size-written s (Some n) {a = a} {b = b} {f = f} {result = result} p =
    let turn = size_turn s.history (Objects n) in
    one_turn s s turn refl (subst (λ text. Puts a b f text result) (append-nil (line_of turn)) p)

-- ---- objects

-- those before a place, and the one there
pub objects-more : (s : Stored) (xs : List ObjectLine) (i : ℕ) (d : ObjectLine) {a b c : Option (List ℕ)} {f g : Option OutFault} {result : Result (Unit {0}) OutFault}
    → i < length xs → Writes s (map (object_turn s.history) (take i xs)) a b f s (Ok tt) → Puts b c g (line_of (object_turn s.history (get_or xs i d))) result
    → Writes s (map (object_turn s.history) (take (i + 1) xs)) a c g s result
objects-more s xs i d {a = a} {c = c} {g = g} {result = result} inside so_far line =
    let H = s.history in
    let here = get_or xs i d in
    let split : map (object_turn H) (take (i + 1) xs) ≡ map (object_turn H) (take i xs) ++ object_turn H here ∷ [] =
    ap (map (object_turn H)) (take_more xs i d inside) ∙ map-append (object_turn H) (take i xs) (here ∷ [])
    in
    subst (λ l. Writes s l a c g s result) (sym split) (join s s s _ _ so_far (one_turn s s (object_turn H here) refl line))

-- the output stopped at the one there
pub objects-stopped : (s : Stored) (xs : List ObjectLine) (i : ℕ) (d : ObjectLine) {a b c : Option (List ℕ)} {f g : Option OutFault} {e : OutFault}
    → i < length xs → Writes s (map (object_turn s.history) (take i xs)) a b f s (Ok tt) → Puts b c g (line_of (object_turn s.history (get_or xs i d))) (Err e)
    → Writes s (map (object_turn s.history) xs) a c g s (Err e)
objects-stopped s xs i d {a = a} {c = c} {g = g} {e = e} inside so_far line =
    let H = s.history in
    let split : map (object_turn H) (take (i + 1) xs) ++ map (object_turn H) (drop (i + 1) xs) ≡ map (object_turn H) xs =
    sym (map-append (object_turn H) (take (i + 1) xs) (drop (i + 1) xs)) ∙ ap (map (object_turn H)) (take-append-drop (i + 1) xs)
    in
    subst (λ l. Writes s l a c g s (Err e)) split (stop s s _ _ (objects-more s xs i d inside so_far line))
