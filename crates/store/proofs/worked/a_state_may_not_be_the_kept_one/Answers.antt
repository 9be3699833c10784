use Rattle.std.proofs.Common.{◌≡◌, ℕ, Option, Some, refl, sym, subst}
use Rattle.std.proofs.lemmas.Option.{same_Some}
use Rattle.type_table.specs.Table.{next}
use Rattle.type_table.specs.Run.{run}
use Rattle.type_table.specs.declared.kind.Kind.TheVariants.{Undo}
use Rattle.object_trait.specs.Object.{Object, object_of}
use Rattle.serial_order.specs.Operations.{ops}
use Rattle.serial_order.specs.Serial.{surviving_at}
use Rattle.store_laws.specs.Examples.{undo_counter_type, one_back}
use Rattle.store.proofs.worked.a_state_may_not_be_the_kept_one.Goals as goal

-- one operation survives there, which counts up
pub returns : goal.returns
unfolding next
returns c = λ kept.
    let is : object_of undo_counter_type ≡ kept.o = same_Some (object_of undo_counter_type) kept.o kept.there in
    let ends : ◌≡◌ {A = Option ℕ} (Some 1) (Some 0) =
    subst (λ (o : Object). o.kind ≡ Undo → run o.table (Some o.table.initial) (ops (surviving_at 0 one_back)) ≡ Some 0) (sym is) kept.in_place refl in
    cc
