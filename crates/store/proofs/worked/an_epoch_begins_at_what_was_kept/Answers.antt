use Rattle.std.proofs.Common.{◌≡◌, ℕ, List, [], ◌∷◌, length, Option, Some, true, false, refl, sym, ap, subst}
use Rattle.std.specs.Prelude.{slice_get}
use Rattle.std.proofs.lemmas.Option.{same_Some}
use Rattle.type_table.specs.Table.{next}
use Rattle.type_table.specs.Run.{run}
use Rattle.type_table.specs.declared.kind.Kind.TheVariants.{Undo}
use Rattle.table_checker.specs.Checked.{Checked}
use Rattle.object_trait.specs.Object.{Object, object_of}
use Rattle.serial_order.specs.Epochs.{types_at}
use Rattle.serial_order.specs.Operations.{ops}
use Rattle.serial_order.specs.Serial.{surviving_at}
use Rattle.store_laws.specs.Stored.{Stored}
use Rattle.store_laws.specs.Examples.{stored, undo_counter_type, deferred_counter_type}
use Rattle.store.specs.KeptState.{IsKeptState}
use Rattle.store.specs.Examples.{up_in_place}
use Rattle.store.proofs.worked.an_epoch_begins_at_what_was_kept.Goals as goal

-- of two there is a second
second : (kept : List ℕ) → length kept ≡ 2 → (s : ℕ) × (slice_get kept 1 ≡ Some s)
second [] is = absurd (cc)
second (a ∷ []) is = absurd (cc)
second (a ∷ b ∷ kept) is = (b, refl)

-- transaction 0 is open and has an operation at the second object
pub returns-clause-open : goal.returns-clause-open
returns-clause-open c = λ renews.
    let (s, there) = second renews.kept renews.as_many in
    let none : true ≡ false = (renews.epoch.kept 1 _ s refl there).idle.0 in
    absurd (cc)

-- where the first of some types begins
first_initial : List Checked → ℕ
first_initial [] = 0
first_initial (c ∷ types) = c.file.table.initial

-- what was kept of the first of two objects, where the new types are those that there were, which begin at 0
kept-first : (kept : List ℕ) → length kept ≡ 2 → undo_counter_type ∷ deferred_counter_type ∷ [] ≡ types_at (undo_counter_type ∷ deferred_counter_type ∷ []) kept → slice_get kept 0 ≡ Some 0
unfolding first_initial
kept-first [] is same = absurd (cc)
kept-first (a ∷ kept) is same = ap (λ n. Some n) (sym (ap first_initial same))

-- but it has counted up to 1
pub returns-clause-at_another_state : goal.returns-clause-at_another_state
unfolding next
returns-clause-at_another_state c = λ renews.
    let kept : IsKeptState (stored up_in_place) 0 0 = renews.states 0 0 (kept-first renews.kept renews.as_many (ap (λ (n : Stored). n.types) renews.is)) in
    let is : object_of undo_counter_type ≡ kept.o = same_Some (object_of undo_counter_type) kept.o kept.there in
    let ends : ◌≡◌ {A = Option ℕ} (Some 1) (Some 0) =
    subst (λ (o : Object). o.kind ≡ Undo → run o.table (Some o.table.initial) (ops (surviving_at 0 up_in_place)) ≡ Some 0) (sym is) kept.in_place refl in
    cc
