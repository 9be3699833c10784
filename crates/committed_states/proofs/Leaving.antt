-- Update in place: open transactions that are left out.
use Rattle.std.proofs.Common.{◌≡◌, ℕ, Bool, true, false, not, ◌==◌, List, ◌++◌, filter, sym, ◌∙◌, inl, inr}
use Rattle.std.proofs.lemmas.Bool.{cases_Bool, false≢true, eqb-true}
use Rattle.object_trait.specs.Object.{Object}
use Rattle.object_trait.specs.Orders.{Pairs, Sorts}
use Rattle.object_trait.specs.Laws.{PartsSort}
use Rattle.object_trait.proofs.Lists.{pairs-weaker}
use Rattle.object_trait.proofs.Sorting.{parts-mine}
use Rattle.serial_order.specs.Operations.{is_among}
use Rattle.serial_order.specs.Laws.{may_pass}
use Rattle.serial_order.specs.declared.entry.Entry.{Entry}
use Rattle.serial_order.proofs.Facts.{IsHeldFree}
use Rattle.serial_order.proofs.Undo.{passes_from}

-- ---- tests

-- a test by transaction tells two transactions apart
by-apart : (test : ℕ → Bool) (t u : ℕ) → test t ≡ false → test u ≡ true → (u == t) ≡ false
by-apart test t u fails passes =
    elim (cases_Bool (u == t)) [
      | inl is ↦ absurd (false≢true (sym fails ∙ (rw (eqb-true u t is) at passes)))
      | inr other ↦ other
    ]

-- ---- open ones that are moved behind

module _ (parts : PartsSort Entry) (o : Object) (C : List ℕ) where
  -- what fails a test by transaction, which all committed ones pass, moves behind what passes it
  pub leaving-sorts : (test : ℕ → Bool) (V : List Entry) → ((t : ℕ) → test t ≡ false → is_among C t ≡ false) → Pairs (IsHeldFree o C) V →
      Sorts (may_pass o) V (filter (λ e. test e.by) V ++ filter (λ e. not (test e.by)) V)
  leaving-sorts test V left locked =
      let mine : Entry → Bool = λ e. test e.by in
      let free : (a b : Entry) → IsHeldFree o C a b → mine a ≡ false → mine b ≡ true → may_pass o a b ≡ true =
      λ a b here fails passes_b. let apart = by-apart test a.by b.by fails passes_b in passes_from o a b apart (here (left a.by fails) apart) in
      parts (may_pass o) V (filter mine V) (filter (λ e. not (mine e)) V) (parts-mine (may_pass o) mine V (pairs-weaker free V locked))
