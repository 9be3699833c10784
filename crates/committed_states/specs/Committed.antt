-- The committed state of an object after a history: what is left where all open transactions are left out.
use Rattle.std.specs.Prelude.{◌≡◌, ℕ, Bool, true, false, List, filter, Some, slice_get}
use Rattle.type_table.specs.Run.{run, Looks, AreEqui}
use Rattle.type_table.specs.declared.kind.Kind.{Kind}
use Rattle.type_table.specs.declared.kind.Kind.TheVariants.{Undo, Intentions, Escrow}
use Rattle.object_trait.specs.Object.{Object, IsCoveredStrongly}
use Rattle.object_trait.specs.declared.event.Event.{Event}
use Rattle.object_trait.specs.declared.event.EventKind.{EventKind}
use Rattle.object_trait.specs.declared.event.EventKind.TheVariants.{Commit}
use Rattle.serial_order.specs.Operations.{is_among, ops, serial}
use Rattle.serial_order.specs.History.{commits}
use Rattle.serial_order.specs.Serial.{surviving_at, serial_state}
use Rattle.serial_order.specs.declared.entry.Entry.{Entry}

-- the operations of these transactions, in the order in which they were executed
abbrev pub of_these : List ℕ → List Entry → List Entry
of_these ts V = filter (λ e. is_among ts e.by) V

-- s is the state where C committed and V survives. Update in place: that after the operations of the committed transactions, in the order in
-- which they were executed. Deferred update: one that is equieffective to the serial state. Escrow: the serial state
abbrev pub IsCommittedBy : Kind → Object → ℕ → List ℕ → List Entry → Type 0
IsCommittedBy Undo o s C V = run o.table (Some o.table.initial) (ops (of_these C V)) ≡ Some s
IsCommittedBy Intentions o s C V = AreEqui o.table (Some s) (run o.table (Some o.table.initial) (ops (serial C V)))
IsCommittedBy Escrow o s C V = run o.table (Some o.table.initial) (ops (serial C V)) ≡ Some s

-- s is a committed state of the object at x: one of its set
pub record IsCommitted (o : Object) (s x : ℕ) (H : List Event) : Type 0 where
  pub inside : o.set s ≡ true
  pub reached : IsCommittedBy o.kind o s (commits H) (surviving_at x H)

-- committed states of the objects, where one is given
abbrev pub AreCommittedStates : List Object → List ℕ → List Event → Type 0
AreCommittedStates objects kept H = (x : ℕ) (o : Object) (s : ℕ) → slice_get objects x ≡ Some o → slice_get kept x ≡ Some s → IsCommitted o s x H

-- whatever s allows, the serial state allows; and the reverse where the yes is strong
pub record AgreesWithSerial (o : Object) (s x : ℕ) (H : List Event) : Type 0 where
  pub looks : Looks o.table (Some s) (serial_state o x H)
  pub equi : IsCoveredStrongly o → AreEqui o.table (Some s) (serial_state o x H)

abbrev pub is_commit : EventKind → Bool
is_commit (Commit t) = true
is_commit _ = false
