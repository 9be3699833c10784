-- The first operation of a call, of any table.
use Rattle.std.proofs.Common.{◌≡◌, ℕ, ◌<◌, Bool, true, false, cond, ltb, List, [], map, length, get_or, Some, None, refl, sym, ap, ◌∙◌, inl, inr, arith}
use Rattle.std.specs.List.{position, position_or_len}
use Rattle.std.specs.Str.{bytes_eq}
use Rattle.std.proofs.lemmas.Bool.{false≢true, cases_lt, cond-true, lt-ltb}
use Rattle.std.proofs.lemmas.List.{get_or-map, get_or_past, length-map}
use Rattle.std.proofs.lemmas.List.Quantifiers.{position-Some}
use Rattle.std.proofs.lemmas.List.Sums.{fails_before_first}
use Rattle.std.proofs.lemmas.Option.{none-some}
use Rattle.std.proofs.lemmas.Slice.Eq.{bytes_eq-Decides}
use Rattle.type_table.specs.Table.{Table, call_of, first_op, has_op}
use Rattle.type_table.specs.declared.op.Op.{Op}

-- no operation
abbrev none_here : Op
none_here = record { call = []; reply = [] }

-- whether an operation's call has this name
abbrev has_name : List ℕ → Op → Bool
has_name name o = bytes_eq o.call name

-- ---- what a name finds

-- the name isn't empty
named_first : (T : Table) (name : List ℕ) (c : ℕ) (some : Bool) → ltb 0 (length name) ≡ some → cond some (position (has_name name) T.ops) None ≡ Some c
    → (ltb 0 (length name) ≡ true) × (position (has_name name) T.ops ≡ Some c)
named_first T name c true is found = (is, found)
named_first T name c false is found = absurd (none-some c found)

-- what is found is an operation of the table, and the name is that of its call
pub first_named : (T : Table) (name : List ℕ) (c : ℕ) → first_op T name ≡ Some c → (call_of T c ≡ name) × (has_op T c ≡ true)
first_named T name c found =
    let named = named_first T name c (ltb 0 (length name)) refl found in
    let place = position-Some (has_name name) T.ops c none_here named.1 in
    let is = get_or-map (λ (o : Op). o.call) T.ops c none_here [] place.0 ∙ (bytes_eq-Decides (get_or T.ops c none_here).call name).0 place.1 in
    (is, ap (λ (n : List ℕ). ltb 0 (length n)) is ∙ named.0)

-- so it is found by the name of its own call
pub first_again : (T : Table) (name : List ℕ) (c : ℕ) → first_op T name ≡ Some c → first_op T (call_of T c) ≡ Some c
first_again T name c found = ap (first_op T) (first_named T name c found).0 ∙ found

-- ---- each call has one

-- what passes somewhere passes first somewhere
passes_first : {A : Type 0} (p : A → Bool) (xs : List A) (k : ℕ) (d : A) → k < length xs → p (get_or xs k d) ≡ true → (c : ℕ) × (position p xs ≡ Some c)
passes_first p xs k d inside passes = elim (cases_lt (position_or_len p xs) (length xs)) [
  | inl below ↦ (position_or_len p xs, cond-true _ _ _ (lt-ltb (position_or_len p xs) (length xs) below))
  | inr past ↦ absurd (false≢true (sym (fails_before_first p xs k d (omega (arith, past, inside))) ∙ passes))
]

-- the name of the call of an operation finds one
pub first_exists : (T : Table) (k : ℕ) → has_op T k ≡ true → (c : ℕ) × (first_op T (call_of T k) ≡ Some c)
first_exists T k there = elim (cases_lt k (length T.ops)) [
  | inl below ↦
      let name = sym (get_or-map (λ (o : Op). o.call) T.ops k none_here [] below) in
      let found = passes_first (has_name (call_of T k)) T.ops k none_here below ((bytes_eq-Decides (get_or T.ops k none_here).call (call_of T k)).1 name) in
      (found.0, cond-true _ _ _ there ∙ found.1)
  | inr past ↦
      let none = get_or_past (map (λ (o : Op). o.call) T.ops) k [] (omega (arith, past, length-map T.ops (λ (o : Op). o.call))) in
      absurd (false≢true (sym (ap (λ (name : List ℕ). ltb 0 (length name)) none) ∙ there))
]
