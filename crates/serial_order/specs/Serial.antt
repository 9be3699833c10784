-- The serial order: the committed transactions, one after another, in the order of their commits.
use Rattle.std.specs.Prelude.{◌≡◌, ℕ, List, Option, Some, slice_get}
use Rattle.type_table.specs.Run.{run, IsLegal}
use Rattle.object_trait.specs.Object.{Object}
use Rattle.object_trait.specs.declared.event.Event.{Event}
use Rattle.serial_order.specs.Operations.{ops, at_object, serial, pending}
use Rattle.serial_order.specs.History.{commits, surviving}
use Rattle.serial_order.specs.declared.entry.Entry.{Entry}

-- what survives at x
abbrev pub surviving_at : ℕ → List Event → List Entry
surviving_at x H = at_object x (surviving H)

-- the operations of the committed transactions at x, one transaction after another in commit order
abbrev pub serial_at : ℕ → List Event → List Entry
serial_at x H = serial (commits H) (surviving_at x H)

-- those of the open ones
abbrev pub pending_at : ℕ → List Event → List Entry
pending_at x H = pending (commits H) (surviving_at x H)

-- the state to which the serial order leads
abbrev pub serial_state : Object → ℕ → List Event → Option ℕ
serial_state o x H = run o.table (Some o.table.initial) (ops (serial_at x H))

-- serially legal: at each object the serial order is legal, operation by operation with its reply
abbrev pub IsSerial : List Object → List Event → Type 0
IsSerial objects H = (x : ℕ) (o : Object) → slice_get objects x ≡ Some o → IsLegal o.table (Some o.table.initial) (ops (serial_at x H))
