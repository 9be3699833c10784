-- Orders of what is carried: the logs of objects tell one, and all are equally long.
use Rattle.std.proofs.Common.{◌≡◌, ℕ, zero, suc, ◌+◌, ◌<◌, ◌≤◌, true, false, ◌==◌, List, [], ◌∷◌, ◌++◌, map, filter, length, drop, get_or, Some, None, option_map, slice_get, refl, sym, ap, ◌∙◌, inl, inr, append-nil, length-append, arith}
use Rattle.std.proofs.lemmas.Bool.{cases_Bool, eqb-true, eq-eqb}
use Rattle.std.proofs.lemmas.Bool.Decides.{nat_tests}
use Rattle.std.proofs.lemmas.List.Elements.{filter-append}
use Rattle.std.proofs.lemmas.Option.{none-some, same_Some, slice_get-map, slice_get_cases}
use Rattle.object_trait.specs.Object.{object_of}
use Rattle.object_trait.specs.Meaning.{Meaning}
use Rattle.object_trait.specs.declared.log_entry.LogEntry.{LogEntry}
use Rattle.serial_order.specs.Operations.{at_object}
use Rattle.serial_order.specs.Represent.{plain}
use Rattle.serial_order.specs.declared.entry.Entry.{Entry}
use Rattle.committed_states.specs.Committed.{of_these}
use Rattle.carried_runs.specs.Objects.{objects_meant}
use Rattle.carried_runs.specs.Carried.{is_carried, carried_of_logs}
use Rattle.carried_runs.specs.Laws.{LogsTellCarried, LogsTellOrder}
use Rattle.carried_runs.proofs.Types.{none-there}

-- ---- what the logs tell at an object

plain-at : (x y : ℕ) (log : List LogEntry) → (y == x) ≡ true → at_object x (map (plain y) log) ≡ map (plain y) log
plain-at x y [] here = refl
plain-at x y (e ∷ log) here = rw here (ap (λ rest. plain y e ∷ rest) (plain-at x y log here))

plain-apart : (x y : ℕ) (log : List LogEntry) → (y == x) ≡ false → at_object x (map (plain y) log) ≡ []
plain-apart x y [] elsewhere = refl
plain-apart x y (e ∷ log) elsewhere = rw elsewhere (plain-apart x y log elsewhere)

-- of an object and those behind it
logs-split : (P : List ℕ) (from x : ℕ) (m : Meaning) (ms : List Meaning) →
    at_object x (carried_of_logs from P (m ∷ ms)) ≡ at_object x (map (plain from) (filter (is_carried P) m.log)) ++ at_object x (carried_of_logs (suc from) P ms)
logs-split P from x m ms = filter-append (λ (e : Entry). e.at == x) (map (plain from) (filter (is_carried P) m.log)) (carried_of_logs (suc from) P ms)

-- nothing before the first
logs-before : (P : List ℕ) (from x : ℕ) (ms : List Meaning) → x < from → at_object x (carried_of_logs from P ms) ≡ []
logs-before P from x [] low = refl
logs-before P from x (m ∷ ms) low =
    let elsewhere : (from == x) ≡ false = grind (arith, nat_tests, low) in
    logs-split P from x m ms
    ∙ ap (λ V. V ++ at_object x (carried_of_logs (suc from) P ms)) (plain-apart x from (filter (is_carried P) m.log) elsewhere)
    ∙ logs-before P (suc from) x ms (omega (arith, low))

-- nothing behind the last
logs-behind : (P : List ℕ) (from x : ℕ) (ms : List Meaning) → from + length ms ≤ x → at_object x (carried_of_logs from P ms) ≡ []
logs-behind P from x [] high = refl
logs-behind P from x (m ∷ ms) high =
    let past : from < x = omega (arith, high) in
    let elsewhere : (from == x) ≡ false = grind (arith, nat_tests, past) in
    logs-split P from x m ms
    ∙ ap (λ V. V ++ at_object x (carried_of_logs (suc from) P ms)) (plain-apart x from (filter (is_carried P) m.log) elsewhere)
    ∙ logs-behind P (suc from) x ms (omega (arith, high))

-- and at an object what its log tells
logs-at : (P : List ℕ) (ms : List Meaning) (from x y : ℕ) (m : Meaning) → y ≡ from + x → slice_get ms x ≡ Some m → at_object y (carried_of_logs from P ms) ≡ map (plain y) (filter (is_carried P) m.log)
logs-at P [] from x y m is there = absurd (none-some m there)
logs-at P (n ∷ ms) from zero y m is there =
    let here : y ≡ from = omega (arith, is) in
    let same : n ≡ m = same_Some n m there in
    rw (here, ← same)
    (logs-split P from from n ms
    ∙ ap (λ V. V ++ at_object from (carried_of_logs (suc from) P ms)) (plain-at from from (filter (is_carried P) n.log) (eq-eqb from from refl))
    ∙ ap (λ V. map (plain from) (filter (is_carried P) n.log) ++ V) (logs-before P (suc from) from ms (omega arith))
    ∙ append-nil (map (plain from) (filter (is_carried P) n.log)))
logs-at P (n ∷ ms) from (suc x) y m is there =
    let past : from < y = omega (arith, is) in
    let elsewhere : (from == y) ≡ false = grind (arith, nat_tests, past) in
    logs-split P from y n ms
    ∙ ap (λ V. V ++ at_object y (carried_of_logs (suc from) P ms)) (plain-apart y from (filter (is_carried P) n.log) elsewhere)
    ∙ logs-at P ms (suc from) x y m (omega (arith, is)) there

-- ---- they tell an order

-- where no object is, none is meant
none-meant : (ms : List Meaning) (x : ℕ) → slice_get ms x ≡ None → slice_get (objects_meant ms) x ≡ None
none-meant ms x none =
    slice_get-map object_of (map (λ (m : Meaning). m.checked) ms) x ∙ ap (option_map object_of) (slice_get-map (λ (m : Meaning). m.checked) ms x ∙ ap (option_map (λ (m : Meaning). m.checked)) none)

pub logs_tell_order : LogsTellCarried → LogsTellOrder
logs_tell_order tell = λ ms H P going represent once x.
    elim ((slice_get_cases ms x).1) [
      | inl found ↦
          let m = found.0 in
          logs-at P ms 0 x x m (omega arith) found.2 ∙ tell m x H P (represent x m found.2) once
      | inr past ↦ logs-behind P 0 x ms (omega (arith, past.0)) ∙ sym (ap (of_these P) (none-there (objects_meant ms) H x going (none-meant ms x past.1)))
    ]

-- ---- orders of the same are equally long

-- the first operation at an object, and what is around it
record IsFirstAt (x : ℕ) (W : List Entry) (e : Entry) (rest : List Entry) : Type 0 where
  before : List Entry
  behind : List Entry
  whole : W ≡ before ++ e ∷ behind
  none : at_object x before ≡ []
  others : at_object x behind ≡ rest

first-at : (x : ℕ) (W : List Entry) (e : Entry) (rest : List Entry) → at_object x W ≡ e ∷ rest → IsFirstAt x W e rest
first-at x [] e rest same = let long = ap length same in absurd (omega (arith, long))
first-at x (f ∷ W) e rest same =
    elim (cases_Bool (f.at == x)) [
      | inl here ↦
          let both : f ∷ at_object x W ≡ e ∷ rest = rw here at same in
          record { before = []; behind = W; whole = ap (λ g. g ∷ W) (ap (λ V. get_or V 0 f) both); none = refl; others = ap (drop 1) both }
      | inr other ↦
          let it = first-at x W e rest (rw other at same) in
          record { before = f ∷ it.before; behind = it.behind; whole = ap (λ V. f ∷ V) it.whole; none = rw other it.none; others = it.others }
    ]

pub equally-long : (U W : List Entry) → ((x : ℕ) → at_object x U ≡ at_object x W) → length U ≡ length W
equally-long [] [] same = refl
equally-long [] (w ∷ W) same =
    let here : [] ≡ w ∷ at_object w.at W = rw (eq-eqb w.at w.at refl) at (same w.at) in
    let long = ap length here in
    absurd (omega (arith, long))
equally-long (e ∷ U) W same =
    let here : e ∷ at_object e.at U ≡ at_object e.at W = rw (eq-eqb e.at e.at refl) at (same e.at) in
    let it = first-at e.at W e (at_object e.at U) (sym here) in
    let rest = equally-long U (it.before ++ it.behind) (λ y. without it y) in
    let whole = ap length it.whole in
    omega (arith, rest, whole, length-append it.before it.behind, length-append it.before (e ∷ it.behind))
  where
    without : (it : IsFirstAt e.at W e (at_object e.at U)) (y : ℕ) → at_object y U ≡ at_object y (it.before ++ it.behind)
    without it y =
        let parts = filter-append (λ (f : Entry). f.at == y) it.before it.behind in
        elim (cases_Bool (e.at == y)) [
          | inl here ↦
              let is : e.at ≡ y = eqb-true e.at y here in
              let none : at_object y it.before ≡ [] = ap (λ z. at_object z it.before) (sym is) ∙ it.none in
              let others : at_object y it.behind ≡ at_object y U = ap (λ z. at_object z it.behind) (sym is) ∙ it.others ∙ ap (λ z. at_object z U) is in
              sym (parts ∙ ap (λ V. V ++ at_object y it.behind) none ∙ others)
          | inr other ↦
              let left : at_object y U ≡ at_object y W = rw other at (same y) in
              let right : at_object y W ≡ at_object y it.before ++ at_object y it.behind =
              ap (at_object y) it.whole ∙ rw other at (filter-append (λ (f : Entry). f.at == y) it.before (e ∷ it.behind)) in
              left ∙ right ∙ sym parts
        ]
