-- What a witness of a pair of operations gives: the run that breaks without the pair, and the order that is illegal.
use Rattle.std.specs.Prelude.{◌≡◌, ℕ, List, false, Some, slice_get}
use Rattle.type_table.specs.Kind.{of_table}
use Rattle.type_table.specs.Run.{IsLegal}
use Rattle.type_table.specs.declared.table_kind.TableKind.{TableKind}
use Rattle.object_trait.specs.Object.{Object}
use Rattle.object_trait.specs.declared.event.Event.{Event}
use Rattle.serial_order.specs.Operations.{ops, serial}
use Rattle.serial_order.specs.History.{commits}
use Rattle.serial_order.specs.Machine.{IsRun}
use Rattle.serial_order.specs.Serial.{surviving_at}
use Rattle.pair_needs.specs.Witnesses.{first_commit, second_commit, failing_order, IsWitness, lead_of, tell_of}
use Rattle.pair_needs.specs.declared.witness.Witness.{Witness}
use Rattle.dynamic_atomicity.specs.Dynamic.{IsOrderOf, KeepsObjectPrecedes}
use Rattle.dynamic_atomicity.specs.Converse.{StepsHaveOps, breaking}

-- the history that is written of it, at the object at x
abbrev pub witness_history : ℕ → TableKind → ℕ → ℕ → Witness → List Event
witness_history x kind p q w = breaking x (first_commit kind w.held_first) (second_commit kind w.held_first) (lead_of w) p q (tell_of w)

-- the history is a run, and in an order of its commits that keeps what precedes at x it isn't legal there
pub record BreaksOrder (objects : List Object) (x : ℕ) (o : Object) (H : List Event) (ts : List ℕ) : Type 0 where
  pub is_run : IsRun objects H
  pub is_order : IsOrderOf (commits H) ts
  pub keeps : KeepsObjectPrecedes x H ts
  pub illegal : IsLegal o.table (Some o.table.initial) (ops (serial ts (surviving_at x H))) → ⊥

-- so it is of each witness of a pair that the object's conflict table hasn't
abbrev pub WitnessBreaks : Type 0
WitnessBreaks =
    (objects : List Object) (x : ℕ) (o : Object) (kind : TableKind) (p q : ℕ) (w : Witness) → slice_get objects x ≡ Some o → StepsHaveOps o.table
    → o.kind ≡ of_table kind → o.conflicts p q ≡ false → IsWitness kind o.table p q w → BreaksOrder objects x o (witness_history x kind p q w) (failing_order w.held_first)
