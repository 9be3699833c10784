-- What open transactions hold at an object, and what one transaction did: after one more event. Statements of their laws.
use Rattle.std.specs.Prelude.{◌≡◌, ℕ, ◌-◌, List, [], ◌∷◌, ◌++◌, length, filter, take, not, ◌&&◌, ◌==◌, if◌then◌else◌}
use Rattle.object_trait.specs.Object.{Object}
use Rattle.object_trait.specs.Strike.{keep_first}
use Rattle.object_trait.specs.declared.event.EventKind.{EventKind}
use Rattle.object_trait.specs.declared.event.EventKind.TheVariants.{Op, Commit, Abort, Rollback}
use Rattle.serial_order.specs.Operations.{at_object, is_by, of}
use Rattle.serial_order.specs.History.{Summary, is_open}
use Rattle.serial_order.specs.View.{stops_at, is_alone}
use Rattle.serial_order.specs.Machine.{May}
use Rattle.serial_order.specs.Represent.{struck_at}
use Rattle.serial_order.specs.Answer.{earliest_rather, blocker}
use Rattle.serial_order.specs.After.{summary_next, AreInRun}
use Rattle.serial_order.specs.declared.entry.Entry.{Entry}

-- ---- what is held

-- the operations of open transactions at x that survive, in the order in which they were executed
abbrev pub held_at : ℕ → Summary → List Entry
held_at x s = filter (λ e. is_open s e.by) (at_object x s.survives)

-- after an event: an operation is held, the end of a transaction gives up all of its operations, a rollback its last ones there
abbrev pub held_after : ℕ → Summary → EventKind → List Entry
held_after x s (Op k t y) = if y == x then held_at x s ++ (record { by = t; at = y; op = k }) ∷ [] else held_at x s
held_after x s (Commit t) = filter (λ e. not (is_by t e)) (held_at x s)
held_after x s (Abort t) = filter (λ e. not (is_by t e)) (held_at x s)
held_after x s (Rollback t n) = keep_first (is_by t) (length (of t (held_at x s)) - struck_at x s t n) (held_at x s)
held_after x s _ = held_at x s

abbrev pub HeldAfter : Type 0
HeldAfter =
    (objects : List Object) (s : Summary) (happened : EventKind) (x : ℕ) → AreInRun s → May objects s happened
    → held_at x (summary_next s happened) ≡ held_after x s happened

-- what keeps t from k is, of the operations held by others that conflict with it, the earliest one whose transaction does so alone; where none does, the earliest
abbrev pub BlockerIsHeld : Type 0
BlockerIsHeld =
    (o : Object) (s : Summary) (x t k : ℕ)
    → blocker o s x t k ≡ earliest_rather (is_alone o s x t k) (λ e. not (e.by == t) && stops_at o.kind o s.committed (at_object x s.survives) t k e) (held_at x s)

-- ---- what one transaction did

-- the operations of t that survive, over all objects, after an event
abbrev pub own_after : ℕ → Summary → EventKind → List Entry
own_after t s (Op k u y) = if u == t then of t s.survives ++ (record { by = u; at = y; op = k }) ∷ [] else of t s.survives
own_after t s (Abort u) = if u == t then [] else of t s.survives
own_after t s (Rollback u n) = if u == t then take (length (of t s.survives) - n) (of t s.survives) else of t s.survives
own_after t s _ = of t s.survives

abbrev pub OwnAfter : Type 0
OwnAfter = (s : Summary) (happened : EventKind) (t : ℕ) → of t (summary_next s happened).survives ≡ own_after t s happened
