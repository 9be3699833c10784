-- Texts of the numbers of a range, or of the items of a list, one after another.
use Rattle.std.proofs.Common.{◌≡◌, ℕ, zero, suc, ◌+◌, ◌<◌, ◌≤◌, List, [], ◌∷◌, ◌++◌, length, take, get_or, Option, Result, Ok, Err, refl, sym, ap, ◌∙◌, subst, arith, append-nil, zero-add}
use Rattle.std.proofs.lemmas.Grind.{flat_map-append}
use Rattle.std.proofs.lemmas.List.{take_more}
use Rattle.std.proofs.lemmas.List.FromFn.{length-range_with_len, get_or-range_with_len}
use Rattle.std.specs.List.{flat_map, range_with_len}
use Rattle.std.specs.Result.{IsErrAnd}
use Rattle.type_table.proofs.Elements.{range-more}
use Rattle.outputs.specs.Out.{Puts, PutsItems, PutsJoin}
use Rattle.outputs.specs.declared.out.OutFault.{OutFault}
use Rattle.outputs.proofs.Turns.{Puts-append, Puts-exit_at}

-- the first numbers of a range
take-range : (a n i : ℕ) → i ≤ n → take i (range_with_len a n) ≡ range_with_len a i
take-range a n zero h = refl
take-range a zero (suc i) h = absurd (omega (arith, h))
take-range a (suc n) (suc i) h = ap (λ l. a ∷ l) (take-range (a + 1) n i (omega (arith, h)))

pub ranges_more : PutsJoin → {a b c : Option (List ℕ)} {f g : Option OutFault} {result : Result (Unit {0}) OutFault}
    (text : ℕ → List ℕ) (i : ℕ) → Puts a b f (flat_map text (range_with_len 0 i)) (Ok tt) → Puts b c g (text i) result → Puts a c g (flat_map text (range_with_len 0 (i + 1))) result
ranges_more joined {a = a} {c = c} {g = g} {result = result} text i so_far next =
    let whole : flat_map text (range_with_len 0 (i + 1)) ≡ flat_map text (range_with_len 0 i) ++ text i =
    ap (λ l. flat_map text l) (range-more i) ∙ flat_map-append text (range_with_len 0 i) (i ∷ []) ∙ ap (λ l. flat_map text (range_with_len 0 i) ++ l) (append-nil (text i)) in
    subst (λ (t : List ℕ). Puts a c g t result) (sym whole) (Puts-append joined so_far next)

pub ranges_exit : PutsItems ℕ → {a b c : Option (List ℕ)} {f g : Option OutFault} {e : OutFault} {result : Result (Unit {0}) OutFault}
    (text : ℕ → List ℕ) (n i : ℕ) → i < n → Puts a b f (flat_map text (range_with_len 0 i)) (Ok tt) → Puts b c g (text i) (Err e) → IsErrAnd result (λ y. y ≡ e)
    → Puts a c g (flat_map text (range_with_len 0 n)) result
ranges_exit items {a = a} {b = b} {c = c} {f = f} {g = g} {e = e} text n i below so_far stop exit =
    let low : i ≤ n = omega (arith, below) in
    let front : Puts a b f (flat_map text (take i (range_with_len 0 n))) (Ok tt) = rw (take-range 0 n i low) so_far in
    let at : Puts b c g (text (get_or (range_with_len 0 n) i 0)) (Err e) = rw (get_or-range_with_len 0 n i 0 below ∙ zero-add i) stop in
    Puts-exit_at items text (range_with_len 0 n) i 0 (omega (arith, below, length-range_with_len 0 n)) front at exit

-- the text of an item, after those of the items before it
pub items_more : PutsJoin → {X : Type 0} {a b c : Option (List ℕ)} {f g : Option OutFault} {result : Result (Unit {0}) OutFault}
    (text : X → List ℕ) (xs : List X) (i : ℕ) (x : X) → i < length xs → x ≡ get_or xs i x → Puts a b f (flat_map text (take i xs)) (Ok tt) → Puts b c g (text x) result
    → Puts a c g (flat_map text (take (i + 1) xs)) result
items_more joined {a = a} {c = c} {g = g} {result = result} text xs i x inside is so_far next =
    let whole : flat_map text (take (i + 1) xs) ≡ flat_map text (take i xs) ++ text x =
    ap (λ l. flat_map text l) (take_more xs i x inside) ∙ flat_map-append text (take i xs) (get_or xs i x ∷ [])
    ∙ ap (λ l. flat_map text (take i xs) ++ l) (append-nil (text (get_or xs i x))) ∙ ap (λ y. flat_map text (take i xs) ++ text y) (sym is) in
    subst (λ (t : List ℕ). Puts a c g t result) (sym whole) (Puts-append joined so_far next)

-- and where the output stops at it
pub items_exit : {X : Type 0} → PutsItems X → {a b c : Option (List ℕ)} {f g : Option OutFault} {e : OutFault} {result : Result (Unit {0}) OutFault}
    (text : X → List ℕ) (xs : List X) (i : ℕ) (x : X) → i < length xs → x ≡ get_or xs i x → Puts a b f (flat_map text (take i xs)) (Ok tt) → Puts b c g (text x) (Err e)
    → IsErrAnd result (λ y. y ≡ e) → Puts a c g (flat_map text xs) result
items_exit {X = X} items {b = b} {c = c} {g = g} {e = e} text xs i x inside is so_far stop exit =
    Puts-exit_at items text xs i x inside so_far (subst (λ (y : X). Puts b c g (text y) (Err e)) is stop) exit
