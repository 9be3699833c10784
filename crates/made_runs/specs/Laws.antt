-- Statements of laws: which runs commands make, and the converse of the headline at a store.
use Rattle.std.specs.Prelude.{◌≡◌, ◌↔◌, ℕ, List, true, false, Some, slice_get}
use Rattle.std.specs.List.{AllByRecursion}
use Rattle.type_table.specs.Kind.{of_table}
use Rattle.type_table.specs.Run.{IsLegal}
use Rattle.type_table.specs.StateSet.{has}
use Rattle.type_table.specs.Table.{IsTable}
use Rattle.type_table.specs.declared.kind.Kind.TheVariants.{Undo}
use Rattle.type_table.specs.declared.table_kind.TableKind.{TableKind}
use Rattle.table_checker.specs.Checked.{Checked, IsCertified, IsChecked}
use Rattle.object_trait.specs.Object.{Object, IsCovered, object_of}
use Rattle.object_trait.specs.declared.event.Event.{Event}
use Rattle.pair_needs.specs.Witnesses.{IsWitness}
use Rattle.pair_needs.specs.declared.witness.Witness.{Witness}
use Rattle.serial_order.specs.Operations.{ops, serial}
use Rattle.serial_order.specs.History.{commits}
use Rattle.serial_order.specs.Machine.{IsRun}
use Rattle.serial_order.specs.Serial.{surviving_at, serial_at}
use Rattle.dynamic_atomicity.specs.Dynamic.{IsOrderOf, KeepsObjectPrecedes}
use Rattle.dynamic_atomicity.specs.Converse.{IsComplete, IsReachable, IsReached, StepsHaveOps}
use Rattle.dynamic_atomicity.specs.Witnessed.{witness_history}
use Rattle.store_limits.specs.declared.limits.Limits.{Limits}
use Rattle.made_runs.specs.Made.{IsMadeByCommands, IsToldBy, HasOneReply, HasRoomForRun}

-- each run is made by commands, where its events are told by the objects' states, and there is room
abbrev pub RunsAreMade : Type 0
RunsAreMade =
    (objects : List Object) (limits : Limits) (H : List Event) → IsRun objects H → AllByRecursion (λ e. IsToldBy objects e.kind) H → HasRoomForRun limits H
    → IsMadeByCommands objects limits H

-- in each history that commands make, each order that keeps what precedes at x is legal there
abbrev pub StoreAdmitsLegalOnly : List Object → ℕ → Object → Type 0
StoreAdmitsLegalOnly objects x o =
    (limits : Limits) (H : List Event) → IsMadeByCommands objects limits H → (ts : List ℕ) → IsOrderOf (commits H) ts → KeepsObjectPrecedes x H ts
    → IsLegal o.table (Some o.table.initial) (ops (serial ts (surviving_at x H)))

-- where the state says the reply, a conflict table is enough exactly where the store makes legal orders only
abbrev pub StoreCoverIsExact : Type 0
StoreCoverIsExact =
    (objects : List Object) (x : ℕ) (o : Object) (way : TableKind) → slice_get objects x ≡ Some o → StepsHaveOps o.table → HasOneReply o.table
    → o.kind ≡ of_table way → IsReached o → IsCovered o ↔ StoreAdmitsLegalOnly objects x o

-- update in place: exactly where commit order is legal in each history that the store makes
abbrev pub StoreUndoIsExact : Type 0
StoreUndoIsExact =
    (objects : List Object) (x : ℕ) (o : Object) → slice_get objects x ≡ Some o → StepsHaveOps o.table → HasOneReply o.table → o.kind ≡ Undo
    → IsReached o
    → IsCovered o ↔ ((limits : Limits) (H : List Event) → IsMadeByCommands objects limits H → IsLegal o.table (Some o.table.initial) (ops (serial_at x H)))

-- so for the checker's yes: over a set of states that are all reached, and a relation that is complete
abbrev pub StoreYesIsExact : Type 0
StoreYesIsExact =
    (objects : List Object) (x : ℕ) (c : Checked) (way : TableKind) → slice_get objects x ≡ Some (object_of c) → StepsHaveOps c.file.table
    → HasOneReply c.file.table → c.kind ≡ of_table way → IsTable c.file.table → IsCertified c.file → IsComplete c.file
    → ((s : ℕ) → has c.file.reach s ≡ true → IsReachable c.file.table s) → IsChecked c ↔ StoreAdmitsLegalOnly objects x (object_of c)

-- the run that a witness of a missing pair gives is one that the store makes, where it has room
abbrev pub StoreMakesWitness : Type 0
StoreMakesWitness =
    (objects : List Object) (x : ℕ) (o : Object) (kind : TableKind) (p q : ℕ) (limits : Limits) (w : Witness) → slice_get objects x ≡ Some o → StepsHaveOps o.table
    → HasOneReply o.table → o.kind ≡ of_table kind → o.conflicts p q ≡ false → IsWitness kind o.table p q w → HasRoomForRun limits (witness_history x kind p q w)
    → IsMadeByCommands objects limits (witness_history x kind p q w)
