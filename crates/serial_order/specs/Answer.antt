-- The answer of a call: one of those that the machine allows.
use Rattle.std.specs.Prelude.{ℕ, List, [], ◌∷◌, length, Bool, cond, not, ◌&&◌, Option, Some, None, is_some}
use Rattle.std.specs.Option.{option_or}
use Rattle.type_table.specs.Least.{first_below}
use Rattle.type_table.specs.Operation.{place_of}
use Rattle.object_trait.specs.Object.{Object}
use Rattle.object_trait.specs.declared.event.EventKind.{EventKind}
use Rattle.object_trait.specs.declared.event.EventKind.TheVariants as kind
use Rattle.object_trait.specs.declared.event.EventKind.TheVariants.{Op, Busy}
use Rattle.serial_order.specs.Operations.{at_object}
use Rattle.serial_order.specs.History.{Summary}
use Rattle.serial_order.specs.View.{is_legal_for, is_alone, conflicts_with, is_of_call}
use Rattle.serial_order.specs.declared.entry.Entry.{Entry}

-- the earliest operation that passes
abbrev pub earliest : (Entry → Bool) → List Entry → Option Entry
earliest test [] = None
earliest test (e ∷ V) = cond (test e) (Some e) (earliest test V)

-- the earliest that passes both tests; where none does, the earliest that passes the second
abbrev pub earliest_rather : (Entry → Bool) → (Entry → Bool) → List Entry → Option Entry
earliest_rather rather test V = option_or (earliest (λ e. rather e && test e) V) (earliest test V)

-- of the operations at x that keep t from k: the earliest one whose transaction does so alone; where none does, the earliest
abbrev pub blocker : Object → Summary → ℕ → ℕ → ℕ → Option Entry
blocker o s x t k = earliest_rather (is_alone o s x t k) (conflicts_with o s x t k) (at_object x s.survives)

-- an operation of the call that is legal for t
abbrev pub is_reply : Object → Summary → ℕ → ℕ → ℕ → ℕ → Bool
is_reply o s x t c k = is_of_call o c k && is_legal_for o s x t k

-- and that nothing blocks
abbrev pub is_free_reply : Object → Summary → ℕ → ℕ → ℕ → ℕ → Bool
is_free_reply o s x t c k = is_reply o s x t c k && not (is_some (blocker o s x t k))

-- `Busy` with the holder of the operation that blocks
abbrev pub busy_with : Option Entry → ℕ → ℕ → ℕ → EventKind
busy_with None t x c = kind.None t x (place_of c)
busy_with (Some e) t x c = Busy (place_of c) t x e.by

-- `Busy` where some operation is legal, with the blocker of the first legal one; else `None`
abbrev pub refused : Object → Summary → ℕ → ℕ → ℕ → Option ℕ → EventKind
refused o s x t c None = kind.None t x (place_of c)
refused o s x t c (Some k) = busy_with (blocker o s x t k) t x c

abbrev pub event_of_first : Object → Summary → ℕ → ℕ → ℕ → Option ℕ → EventKind
event_of_first o s x t c (Some k) = Op k t x
event_of_first o s x t c None = refused o s x t c (first_below (length o.table.ops) (is_reply o s x t c))

-- the event of a call c of t at the object at x: the first operation of the call that is legal and free, in table order
abbrev pub event_of_call : Object → Summary → ℕ → ℕ → ℕ → EventKind
event_of_call o s x t c = event_of_first o s x t c (first_below (length o.table.ops) (is_free_reply o s x t c))
