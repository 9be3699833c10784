-- A small history at a number, and a store, worked by hand.
use Rattle.std.specs.Prelude.{List, [], ◌∷◌, take, true}
use Rattle.object_trait.specs.declared.event.Event.{Event}
use Rattle.object_trait.specs.declared.event.EventKind.TheVariants.{Op, Commit, Rollback}
use Rattle.serial_order.specs.Examples.{events, short_history}
use Rattle.escrow_exact.specs.Stores.{Store}

-- of a number up to 10, from 5, transaction 0 took 5
abbrev pub taken_history : List Event
taken_history = take 3 short_history

-- 1 gives 5
abbrev pub give : Event
give = record { worker = 0; kind = Op 2 1 0 }

-- 1 commits, and then 0
abbrev pub two_commits : List Event
two_commits = events (Commit 1 ∷ Commit 0 ∷ [])

-- 0 takes its last operation back, 1 commits, and then 0
abbrev pub back_and_commits : List Event
back_and_commits = events (Rollback 0 1 ∷ Commit 1 ∷ Commit 0 ∷ [])

-- a store that admits everything
abbrev pub all_admitted : Store
all_admitted H = true
