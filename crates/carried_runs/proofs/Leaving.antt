-- Update in place: where open transactions are left out, or moved behind the committed ones.
use Rattle.std.proofs.Common.{◌≡◌, ℕ, Bool, true, false, not, ◌&&◌, ◌||◌, List, ◌++◌, filter, refl, sym, ◌∙◌}
use Rattle.std.proofs.lemmas.Bool.{or_parts, false≢true}
use Rattle.std.proofs.lemmas.List.Elements.{filter_agree}
use Rattle.type_table.proofs.Elements.{mine-within}
use Rattle.object_trait.specs.Object.{Object}
use Rattle.object_trait.specs.Orders.{Pairs, Sorts}
use Rattle.object_trait.specs.Laws.{PartsSort}
use Rattle.object_trait.proofs.Lists.{pairs-filter}
use Rattle.serial_order.specs.Operations.{is_among}
use Rattle.serial_order.specs.Laws.{may_pass}
use Rattle.serial_order.specs.declared.entry.Entry.{Entry}
use Rattle.serial_order.proofs.Facts.{IsHeldFree}
use Rattle.serial_order.proofs.Lists.{both_filters}
use Rattle.committed_states.specs.Committed.{of_these}
use Rattle.committed_states.proofs.Leaving.{leaving-sorts}
use Rattle.carried_runs.specs.Views.{of_either}

-- each of these is none of those
abbrev pub AreOutside : List ℕ → List ℕ → Type 0
AreOutside C P = (t : ℕ) → is_among P t ≡ true → is_among C t ≡ false

-- the committed ones of these and those are the committed ones
too-committed : (C P : List ℕ) (V : List Entry) → of_these C (of_either C P V) ≡ of_these C V
too-committed C P V = mine-within (λ e. is_among C e.by || is_among P e.by) (λ e. is_among C e.by) V (λ e mine. rw mine refl)

-- and the others are the carried ones
too-carried : (C P : List ℕ) (V : List Entry) → AreOutside C P → filter (λ e. not (is_among C e.by)) (of_either C P V) ≡ of_these P V
too-carried C P V outside =
    sym (both_filters (λ (e : Entry). is_among C e.by || is_among P e.by) (λ e. not (is_among C e.by)) V)
    ∙ filter_agree (λ (e : Entry). (is_among C e.by || is_among P e.by) && not (is_among C e.by)) (λ e. is_among P e.by) (λ e. alike (is_among C e.by) (is_among P e.by) (outside e.by)) V
  where
    alike : (c p : Bool) → (p ≡ true → c ≡ false) → ((c || p) && not c) ≡ p
    alike true true left = absurd (false≢true (sym (left refl)))
    alike true false left = refl
    alike false true left = refl
    alike false false left = refl

module _ (parts : PartsSort Entry) (o : Object) (C P : List ℕ) (V : List Entry) (outside : AreOutside C P) (locked : Pairs (IsHeldFree o C) V) where
  -- open ones that aren't carried move to the end
  pub others-leave : Sorts (may_pass o) V (of_either C P V ++ filter (λ e. not (is_among C e.by || is_among P e.by)) V)
  others-leave = leaving-sorts parts o C (λ t. is_among C t || is_among P t) V (λ t fails. (or_parts (is_among C t) (is_among P t) fails).0) locked

  -- and of the rest the carried ones
  pub carried-follow : Sorts (may_pass o) (of_either C P V) (of_these C V ++ of_these P V)
  carried-follow =
      rw (too-committed C P V, too-carried C P V outside) at
      (leaving-sorts parts o C (λ t. is_among C t) (of_either C P V) (λ t fails. fails) (pairs-filter (IsHeldFree o C) (λ e. is_among C e.by || is_among P e.by) V locked))
