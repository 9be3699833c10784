-- Small stores, worked by hand.
use Rattle.std.specs.Prelude.{ℕ, List, [], ◌∷◌}
use Rattle.object_trait.specs.declared.event.Event.{Event}
use Rattle.object_trait.specs.declared.event.EventKind.{EventKind}
use Rattle.object_trait.specs.declared.event.EventKind.TheVariants.{Begin, Op, Commit}
use Rattle.store_limits.specs.Standard.{standard_with}
use Rattle.store_laws.specs.Stored.{Stored}
use Rattle.store_laws.specs.Examples.{stored}

-- an event by this worker
abbrev pub event_by : ℕ → EventKind → Event
event_by w happened = record { worker = w; kind = happened }

-- two transactions of worker 4, and one of worker 7, which commits
abbrev pub two_left_open : List Event
two_left_open = event_by 4 (Begin 0) ∷ event_by 7 (Begin 1) ∷ event_by 4 (Begin 2) ∷ event_by 7 (Commit 1) ∷ []

-- a transaction counts up at the first object while another is open
abbrev pub up_beside_another : List Event
up_beside_another = event_by 4 (Begin 0) ∷ event_by 4 (Begin 1) ∷ event_by 4 (Op 0 0 0) ∷ []

-- a transaction counts up at the first object, and commits
abbrev pub up_in_place : List Event
up_in_place = event_by 7 (Begin 0) ∷ event_by 7 (Op 0 0 0) ∷ event_by 7 (Commit 0) ∷ []

-- the two counters with this history, and room for more
abbrev pub roomy : List Event → Stored
roomy H = record (stored H) { limits = standard_with 100 }
