-- Necessity: a pair that doesn't commute and isn't in the table lets a history in that isn't dynamically atomic, at an object among any
-- others.
use Rattle.std.specs.Prelude.{◌≡◌, ◌↔◌, ℕ, ◌<◌, List, [], ◌∷◌, ◌++◌, map, true, false, Some, IsSome, slice_get}
use Rattle.type_table.specs.Table.{Table, IsTable, has_op, next}
use Rattle.type_table.specs.Run.{run, IsLegal, Looks, AreEqui}
use Rattle.type_table.specs.StateSet.{has, IsClosed}
use Rattle.equi_cert.specs.Relation.{relates}
use Rattle.declared_types.specs.declared.type_file.TypeFile.{TypeFile}
use Rattle.table_checker.specs.Checked.{Checked, IsCertified, IsChecked}
use Rattle.type_table.specs.Kind.{of_table}
use Rattle.type_table.specs.declared.kind.Kind.TheVariants.{Undo}
use Rattle.type_table.specs.declared.table_kind.TableKind.{TableKind}
use Rattle.object_trait.specs.Object.{Object, IsCovered, IsCoveredStrongly, object_of}
use Rattle.object_trait.specs.declared.event.Event.{Event}
use Rattle.object_trait.specs.declared.event.EventKind.{EventKind}
use Rattle.object_trait.specs.declared.event.EventKind.TheVariants.{Begin, Op, Commit}
use Rattle.serial_order.specs.Operations.{ops, serial}
use Rattle.serial_order.specs.History.{commits}
use Rattle.serial_order.specs.Machine.{IsRun}
use Rattle.serial_order.specs.Serial.{surviving_at, serial_at}
use Rattle.dynamic_atomicity.specs.Dynamic.{IsOrderOf, KeepsObjectPrecedes, executed_at, end_state}
use Rattle.serial_order.specs.Examples.{events}

-- each step is by one of the type's operations: numbers of its table that have no name are legal nowhere. So it is of every type that is
-- declared (`steps_have_ops`)
abbrev pub StepsHaveOps : Table → Type 0
StepsHaveOps T = (s k : ℕ) → IsSome (next T s k) → has_op T k ≡ true

-- these operations, by t, at the object at x
abbrev pub executed_by : ℕ → ℕ → List ℕ → List EventKind
executed_by x t ks = map (λ k. Op k t x) ks

-- at x, transaction 0 leads to a state by w and commits; 1 executes q, and 2, while 1 is open, p; both commit, in this order; and 3 runs r
abbrev pub breaking : ℕ → ℕ → ℕ → List ℕ → ℕ → ℕ → List ℕ → List Event
breaking x first second w p q r =
    events (Begin 0 ∷ (executed_by x 0 w ++ (Commit 0 ∷ Begin 1 ∷ Begin 2 ∷ Op q 1 x ∷ Op p 2 x ∷ Commit first ∷ Commit second ∷ Begin 3 ∷ (executed_by x 3 r ++ Commit 3 ∷ []))))

-- each operation is legal after v and those before it
abbrev pub Goes : Table → List ℕ → List ℕ → Type 0
Goes T v [] = Unit {0}
Goes T v (k ∷ r) = IsLegal T (Some T.initial) (v ++ k ∷ []) × Goes T (v ++ k ∷ []) r

-- in every run over these objects, each order that keeps what precedes at x is legal there
abbrev pub AdmitsLegalOnly : List Object → ℕ → Object → Type 0
AdmitsLegalOnly objects x o =
    (H : List Event) → IsRun objects H → (ts : List ℕ) → IsOrderOf (commits H) ts → KeepsObjectPrecedes x H ts
    → IsLegal o.table (Some o.table.initial) (ops (serial ts (surviving_at x H)))

-- a list leads to the state
abbrev pub IsReachable : Table → ℕ → Type 0
IsReachable T s = (w : List ℕ) × (run T (Some T.initial) w ≡ Some s)

-- the states that are looked at: the initial one, all that a step leads to, and each of them is reached
pub record IsReached (o : Object) : Type 0 where
  pub begins_inside : o.set o.table.initial ≡ true
  pub closed : IsClosed o.table o.set
  pub reach : (s : ℕ) → o.set s ≡ true → IsReachable o.table s

-- update in place: where q and then p goes on by r from where w leads, and p doesn't conflict with q, the run, its commit order, and that
-- it is p and then q there
abbrev pub UndoBreaks : Type 0
UndoBreaks =
    (objects : List Object) (x : ℕ) (o : Object) (w : List ℕ) (p q : ℕ) (r : List ℕ) → slice_get objects x ≡ Some o → StepsHaveOps o.table
    → o.kind ≡ Undo → o.conflicts p q ≡ false → IsLegal o.table (Some o.table.initial) (w ++ q ∷ p ∷ r)
    → IsRun objects (breaking x 2 1 w p q r) × (commits (breaking x 2 1 w p q r) ≡ 0 ∷ 2 ∷ 1 ∷ 3 ∷ [])
    × (ops (serial_at x (breaking x 2 1 w p q r)) ≡ w ++ p ∷ q ∷ r)

-- in every run that may break, each order that keeps what precedes at x is legal there
abbrev pub AdmitsLegalBreaks : List Object → ℕ → Object → Type 0
AdmitsLegalBreaks objects x o =
    (first second : ℕ) (w : List ℕ) (p q : ℕ) (r : List ℕ) → IsRun objects (breaking x first second w p q r)
    → (ts : List ℕ) → IsOrderOf (commits (breaking x first second w p q r)) ts → KeepsObjectPrecedes x (breaking x first second w p q r) ts
    → IsLegal o.table (Some o.table.initial) (ops (serial ts (surviving_at x (breaking x first second w p q r))))

-- then the conflict table is enough: no other runs need be looked at
abbrev pub BreaksAreEnough : Type 0
BreaksAreEnough =
    (objects : List Object) (x : ℕ) (o : Object) (way : TableKind) → slice_get objects x ≡ Some o → StepsHaveOps o.table → o.kind ≡ of_table way
    → IsReached o → AdmitsLegalBreaks objects x o → IsCovered o

-- update in place: nor another order than that of the commits
abbrev pub UndoBreaksAreEnough : Type 0
UndoBreaksAreEnough =
    (objects : List Object) (x : ℕ) (o : Object) → slice_get objects x ≡ Some o → StepsHaveOps o.table → o.kind ≡ Undo → IsReached o
    → ((w : List ℕ) (p q : ℕ) (r : List ℕ) → IsRun objects (breaking x 2 1 w p q r) → IsLegal o.table (Some o.table.initial) (ops (serial_at x (breaking x 2 1 w p q r))))
    → IsCovered o

-- a conflict table is enough exactly where the locks admit legal orders only
abbrev pub CoverIsExact : Type 0
CoverIsExact =
    (objects : List Object) (x : ℕ) (o : Object) (way : TableKind) → slice_get objects x ≡ Some o → StepsHaveOps o.table → o.kind ≡ of_table way
    → IsReached o → IsCovered o ↔ AdmitsLegalOnly objects x o

-- the file's relation has each pair of states of which the first looks like the second
abbrev pub IsComplete : TypeFile → Type 0
IsComplete file = (s t : ℕ) → s < file.table.states → t < file.table.states → Looks file.table (Some s) (Some t) → relates file.relation s t ≡ true

-- so for the checker's yes: over a set of states that are all reached, and a relation that is complete
abbrev pub YesIsExact : Type 0
YesIsExact =
    (objects : List Object) (x : ℕ) (c : Checked) (way : TableKind) → slice_get objects x ≡ Some (object_of c) → StepsHaveOps c.file.table
    → c.kind ≡ of_table way → IsTable c.file.table → IsCertified c.file → IsComplete c.file → ((s : ℕ) → has c.file.reach s ≡ true → IsReachable c.file.table s)
    → IsChecked c ↔ AdmitsLegalOnly objects x (object_of c)

-- update in place: commit order alone is exact too
abbrev pub UndoSerialIsExact : Type 0
UndoSerialIsExact =
    (objects : List Object) (x : ℕ) (o : Object) → slice_get objects x ≡ Some o → StepsHaveOps o.table → o.kind ≡ Undo → IsReached o
    → IsCovered o ↔ ((H : List Event) → IsRun objects H → IsLegal o.table (Some o.table.initial) (ops (serial_at x H)))

-- update in place, of a table that is enough: it is so strongly exactly where the end of what was executed is equieffective to that of
-- commit order
abbrev pub StrongSerialIsExact : Type 0
StrongSerialIsExact =
    (objects : List Object) (x : ℕ) (o : Object) → slice_get objects x ≡ Some o → StepsHaveOps o.table → o.kind ≡ Undo → IsReached o
    → IsCovered o → IsCoveredStrongly o
    ↔ ((H : List Event) → IsRun objects H → AreEqui o.table (end_state o (executed_at x H)) (end_state o (serial_at x H)))

-- and to that of each order that keeps what precedes
abbrev pub StrongIsExact : Type 0
StrongIsExact =
    (objects : List Object) (x : ℕ) (o : Object) → slice_get objects x ≡ Some o → StepsHaveOps o.table → o.kind ≡ Undo → IsReached o
    → IsCovered o → IsCoveredStrongly o
    ↔ ((H : List Event) → IsRun objects H → (ts : List ℕ) → IsOrderOf (commits H) ts → KeepsObjectPrecedes x H ts
    → AreEqui o.table (end_state o (executed_at x H)) (end_state o (serial ts (surviving_at x H))))
