-- How the text of a type file is put together from what its writer writes.
use Rattle.std.proofs.Common.{◌≡◌, ℕ, zero, suc, ◌+◌, ◌<◌, ◌≤◌, List, [], ◌∷◌, ◌++◌, length, take, get_or, map, Option, Result, Ok, Err, refl, sym, ap, ◌∙◌, subst, arith, append_assoc, append-nil, zero-add}
use Rattle.std.proofs.lemmas.Grind.{flat_map-append}
use Rattle.std.proofs.lemmas.List.{map-append}
use Rattle.std.proofs.lemmas.List.Folds.{flat_map-map}
use Rattle.std.proofs.lemmas.List.FromFn.{length-range_with_len, get_or-range_with_len}
use Rattle.std.specs.List.{flat_map, range_with_len}
use Rattle.std.specs.Result.{IsErrAnd}
use Rattle.line_text.specs.Spelling.{spaced, text_of}
use Rattle.type_table.specs.declared.op.Op.{Op}
use Rattle.type_table.specs.declared.table_kind.TableKind.TheVariants.{Undo, Intentions}
use Rattle.type_table.proofs.Elements.{range-more}
use Rattle.outputs.specs.Out.{Puts, PutsItems, PutsJoin}
use Rattle.type_text.specs.Canonical.{words_of, lines_of_entries, canonical_lines, canonical_text}
use Rattle.type_text.specs.declared.entries.Entries.{Entries}
use Rattle.type_text.specs.declared.entries.Entries.TheVariants.{Steps, Members, Pairs, Conflicts}
use Rattle.outputs.specs.declared.out.OutFault.{OutFault}
use Rattle.outputs.proofs.Turns.{Puts-append, Puts-exit_at}
use Rattle.declared_types.specs.declared.type_file.TypeFile.{TypeFile}
use Rattle.type_text.specs.declared.type_line.TypeLine.{TypeLine}
use Rattle.type_text.specs.declared.type_line.TypeLine.TheVariants.{TypeName, States, Initial, Operation, End}
use Rattle.type_text.proofs.Members.{take-more}

-- ---- lines

-- the text of groups of lines is the texts of the groups
pub text_of-groups : {X : Type 0} (lines : X → List TypeLine) (xs : List X)
    → text_of words_of (flat_map lines xs) ≡ flat_map (λ x. text_of words_of (lines x)) xs
text_of-groups lines [] = refl
text_of-groups lines (x ∷ xs) =
    flat_map-append (λ line. spaced (words_of line) ++ 10 ∷ []) (lines x) (flat_map lines xs)
    ∙ ap (λ l. text_of words_of (lines x) ++ l) (text_of-groups lines xs)

-- the text of two lists of lines
pub text_of-append : (xs ys : List TypeLine) → text_of words_of (xs ++ ys) ≡ text_of words_of xs ++ text_of words_of ys
text_of-append xs ys = flat_map-append (λ line. spaced (words_of line) ++ 10 ∷ []) xs ys

-- the first numbers of a range
pub take-range : (a n i : ℕ) → i ≤ n → take i (range_with_len a n) ≡ range_with_len a i
take-range a n zero h = refl
take-range a zero (suc i) h = absurd (omega (arith, h))
take-range a (suc n) (suc i) h = ap (λ l. a ∷ l) (take-range (a + 1) n i (omega (arith, h)))

-- ---- groups that are written in turn

-- one more group
pub groups_more : PutsJoin → {a b c : Option (List ℕ)} {f g : Option OutFault} {result : Result (Unit {0}) OutFault}
    (lines : ℕ → List TypeLine) (i : ℕ) → Puts a b f (text_of words_of (flat_map lines (range_with_len 0 i))) (Ok tt)
    → Puts b c g (text_of words_of (lines i)) result → Puts a c g (text_of words_of (flat_map lines (range_with_len 0 (i + 1)))) result
groups_more joined {a = a} {c = c} {g = g} {result = result} lines i so_far next =
    let text : text_of words_of (flat_map lines (range_with_len 0 (i + 1))) ≡ text_of words_of (flat_map lines (range_with_len 0 i)) ++ text_of words_of (lines i) =
    ap (λ l. text_of words_of (flat_map lines l)) (range-more i) ∙ ap (text_of words_of) (flat_map-append lines (range_with_len 0 i) (i ∷ []))
    ∙ text_of-append (flat_map lines (range_with_len 0 i)) (lines i ++ []) ∙ ap (λ l. text_of words_of (flat_map lines (range_with_len 0 i)) ++ text_of words_of l) (append-nil (lines i)) in
    subst (λ (t : List ℕ). Puts a c g t result) (sym text) (Puts-append joined so_far next)

-- a group at which the output stopped, at the exit of a `?`
pub group_exit : {X : Type 0} → PutsItems X → {a b c : Option (List ℕ)} {f g : Option OutFault} {e : OutFault} {result : Result (Unit {0}) OutFault}
    (lines : X → List TypeLine) (xs : List X) (i : ℕ) (d : X) → i < length xs → Puts a b f (text_of words_of (flat_map lines (take i xs))) (Ok tt)
    → Puts b c g (text_of words_of (lines (get_or xs i d))) (Err e) → IsErrAnd result (λ y. y ≡ e) → Puts a c g (text_of words_of (flat_map lines xs)) result
group_exit items {a = a} {b = b} {c = c} {f = f} {g = g} {result = result} lines xs i d inside so_far stop exit =
    let front : Puts a b f (flat_map (λ x. text_of words_of (lines x)) (take i xs)) (Ok tt) = rw (← text_of-groups lines (take i xs)) so_far in
    rw (text_of-groups lines xs) (Puts-exit_at items (λ x. text_of words_of (lines x)) xs i d inside front stop exit)

-- the same for groups by their numbers
pub groups_exit : PutsItems ℕ → {a b c : Option (List ℕ)} {f g : Option OutFault} {e : OutFault} {result : Result (Unit {0}) OutFault}
    (lines : ℕ → List TypeLine) (n i : ℕ) → i < n → Puts a b f (text_of words_of (flat_map lines (range_with_len 0 i))) (Ok tt)
    → Puts b c g (text_of words_of (lines i)) (Err e) → IsErrAnd result (λ y. y ≡ e) → Puts a c g (text_of words_of (flat_map lines (range_with_len 0 n))) result
groups_exit items {a = a} {b = b} {c = c} {f = f} {g = g} {e = e} {result = result} lines n i inside so_far stop exit =
    let within : i ≤ n = omega (arith, inside) in
    let long : i < length (range_with_len 0 n) = omega (arith, inside, length-range_with_len 0 n) in
    let at : get_or (range_with_len 0 n) i 0 ≡ i = get_or-range_with_len 0 n i 0 inside ∙ zero-add i in
    let front : Puts a b f (text_of words_of (flat_map lines (take i (range_with_len 0 n)))) (Ok tt) = rw (take-range 0 n i within) so_far in
    let here : Puts b c g (text_of words_of (lines (get_or (range_with_len 0 n) i 0))) (Err e) = rw at stop in
    group_exit items lines (range_with_len 0 n) i 0 long front here exit

-- ---- operations

-- one more `op` line
pub ops_more : PutsJoin → {a b c : Option (List ℕ)} {f g : Option OutFault} {result : Result (Unit {0}) OutFault}
    (ops : List Op) (i : ℕ) (op : Op) → i < length ops → op ≡ get_or ops i op → Puts a b f (text_of words_of (map Operation (take i ops))) (Ok tt)
    → Puts b c g (spaced (words_of (Operation op)) ++ 10 ∷ []) result → Puts a c g (text_of words_of (map Operation (take (i + 1) ops))) result
ops_more joined {a = a} {c = c} {g = g} {result = result} ops i op inside at so_far next =
    let text : text_of words_of (map Operation (take (i + 1) ops)) ≡ text_of words_of (map Operation (take i ops)) ++ (spaced (words_of (Operation op)) ++ 10 ∷ []) =
    ap (λ l. text_of words_of (map Operation l)) (take-more ops i op inside at) ∙ ap (text_of words_of) (map-append Operation (take i ops) (op ∷ []))
    ∙ text_of-append (map Operation (take i ops)) (Operation op ∷ []) ∙ ap (λ l. text_of words_of (map Operation (take i ops)) ++ l) (append-nil (spaced (words_of (Operation op)) ++ 10 ∷ [])) in
    rw text (Puts-append joined so_far next)

-- an `op` line at which the output stopped, at the exit of a `?`
pub ops_exit : PutsItems Op → {a b c : Option (List ℕ)} {f g : Option OutFault} {e : OutFault} {result : Result (Unit {0}) OutFault}
    (ops : List Op) (i : ℕ) (op : Op) → i < length ops → op ≡ get_or ops i op → Puts a b f (text_of words_of (map Operation (take i ops))) (Ok tt)
    → Puts b c g (spaced (words_of (Operation op)) ++ 10 ∷ []) (Err e) → IsErrAnd result (λ y. y ≡ e) → Puts a c g (text_of words_of (map Operation ops)) result
ops_exit items {a = a} {b = b} {c = c} {f = f} {g = g} {e = e} {result = result} ops i op inside at so_far stop exit =
    let text : Op → List ℕ = λ o. spaced (words_of (Operation o)) ++ 10 ∷ [] in
    let front : Puts a b f (flat_map text (take i ops)) (Ok tt) = rw (← flat_map-map (λ line. spaced (words_of line) ++ 10 ∷ []) Operation (take i ops)) so_far in
    let here : Puts b c g (text (get_or ops i op)) (Err e) = rw (← at) stop in
    rw (flat_map-map (λ line. spaced (words_of line) ++ 10 ∷ []) Operation ops) (Puts-exit_at items text ops i op inside front here exit)

-- ---- the whole text

-- the sections of entries in the order of a text
abbrev pub all_sections : List Entries
all_sections = Steps ∷ Members ∷ Pairs ∷ Conflicts Undo ∷ Conflicts Intentions ∷ []

-- the first three lines, the operations, the sections of entries and the last line
pub text-parts : (file : TypeFile) →
    text_of words_of (TypeName file.table.name ∷ States file.table.states ∷ Initial file.table.initial ∷ [])
    ++ (text_of words_of (map Operation file.table.ops) ++ (text_of words_of (flat_map (lines_of_entries file) all_sections) ++ (spaced (words_of End) ++ 10 ∷ [])))
    ≡ canonical_text file
text-parts file =
    let head : List TypeLine = TypeName file.table.name ∷ States file.table.states ∷ Initial file.table.initial ∷ [] in
    let ops : List TypeLine = map Operation file.table.ops in
    let sections : List TypeLine = flat_map (lines_of_entries file) all_sections in
    let apart : text_of words_of (head ++ (ops ++ (sections ++ End ∷ []))) ≡ text_of words_of head ++ (text_of words_of ops ++ (text_of words_of sections ++ text_of words_of (End ∷ []))) =
    text_of-append head (ops ++ (sections ++ End ∷ []))
    ∙ ap (λ l. text_of words_of head ++ l) (text_of-append ops (sections ++ End ∷ [])
    ∙ ap (λ l. text_of words_of ops ++ l) (text_of-append sections (End ∷ []))) in
    let joined : head ++ (ops ++ (sections ++ End ∷ [])) ≡ canonical_lines file = simp (append_assoc, append-nil) in
    sym apart ∙ ap (text_of words_of) joined
