-- The entries of a log, as operations that survive.
use Rattle.std.proofs.Common.{◌≡◌, ℕ, zero, suc, Bool, true, false, not, ◌&&◌, ◌==◌, List, [], ◌∷◌, map, filter, refl, ap, inl, inr}
use Rattle.std.specs.List.{AllByRecursion}
use Rattle.std.proofs.lemmas.Bool.{cases_Bool}
use Rattle.type_table.proofs.Elements.{each-weaker}
use Rattle.object_trait.specs.Strike.{keep_first}
use Rattle.object_trait.specs.Meaning.{log_ops, is_open_of}
use Rattle.object_trait.specs.declared.log_entry.LogEntry.{LogEntry}
use Rattle.serial_order.specs.Operations.{is_by, ops}
use Rattle.serial_order.specs.Represent.{plain}
use Rattle.serial_order.specs.declared.entry.Entry.{Entry}

-- the operations of a log are those of its entries
pub ops-plain : (x : ℕ) (log : List LogEntry) → ops (map (plain x) log) ≡ log_ops log
ops-plain x [] = refl
ops-plain x (e ∷ log) = ap (λ rest. e.op ∷ rest) (ops-plain x log)

-- where a test of operations agrees with one of entries, what passes the one is what passes the other
pub filter-plain : (test : Entry → Bool) (own : LogEntry → Bool) (x : ℕ) (log : List LogEntry) → AllByRecursion (λ e. test (plain x e) ≡ own e) log →
    filter test (map (plain x) log) ≡ map (plain x) (filter own log)
filter-plain test own x [] same = refl
filter-plain test own x (e ∷ log) same =
    elim (cases_Bool (own e)) [
      | inl is ↦ rw (same.0, is) (ap (λ rest. plain x e ∷ rest) (filter-plain test own x log same.1))
      | inr isnt ↦ rw (same.0, isnt) (filter-plain test own x log same.1)
    ]

-- and what a strike leaves of the one is what it leaves of the other
pub strike-plain : (mine : Entry → Bool) (own : LogEntry → Bool) (n x : ℕ) (log : List LogEntry) → AllByRecursion (λ e. mine (plain x e) ≡ own e) log →
    keep_first mine n (map (plain x) log) ≡ map (plain x) (keep_first own n log)
strike-plain mine own n x [] same = refl
strike-plain mine own zero x (e ∷ log) same =
    elim (cases_Bool (own e)) [
      | inl is ↦ rw (same.0, is) (strike-plain mine own zero x log same.1)
      | inr isnt ↦ rw (same.0, isnt) (ap (λ rest. plain x e ∷ rest) (strike-plain mine own zero x log same.1))
    ]
strike-plain mine own (suc n) x (e ∷ log) same =
    elim (cases_Bool (own e)) [
      | inl is ↦ rw (same.0, is) (ap (λ rest. plain x e ∷ rest) (strike-plain mine own n x log same.1))
      | inr isnt ↦ rw (same.0, isnt) (ap (λ rest. plain x e ∷ rest) (strike-plain mine own (suc n) x log same.1))
    ]

-- where no entry of t is done, t's operations are its open entries
pub open-plain : (x t : ℕ) (log : List LogEntry) → AllByRecursion (λ e. (e.by == t) ≡ true → e.done ≡ false) log → AllByRecursion (λ e. is_by t (plain x e) ≡ is_open_of t e) log
open-plain x t log undone = each-weaker (λ e h. of_one e h) log undone
  where
    of_one : (e : LogEntry) → ((e.by == t) ≡ true → e.done ≡ false) → (e.by == t) ≡ ((e.by == t) && not e.done)
    of_one e h =
        elim (cases_Bool (e.by == t)) [
          | inl mine ↦ rw (mine, h mine) refl
          | inr other ↦ rw other refl
        ]
