-- Two workers at two counters, worked by hand.
use Rattle.std.specs.Prelude.{List, [], ◌∷◌, ◌++◌, codes}
use Rattle.object_trait.specs.declared.event.Event.{Event}
use Rattle.object_trait.specs.declared.event.EventKind.TheVariants.{Begin, Op, Commit, Abort}
use Rattle.store_laws.specs.Examples.{one_up, stored}
use Rattle.worker_turns.specs.declared.outcome.Receipt.{Receipt}
use Rattle.workers.specs.SharedState.{Start}

-- each of two workers has one job, to count up at a counter of its own, and one try; worker 7 was there before
abbrev pub start : Start
start = record {
  store = stored one_up;
  jobs = (((0, codes "inc:1") ∷ []) ∷ []) ∷ (((1, codes "inc:1") ∷ []) ∷ []) ∷ [];
  tries = 1;
}

-- both began and counted up; worker 0 committed, and worker 1 aborted
abbrev pub since : List Event
since =
    (record { worker = 0; kind = Begin 1 }) ∷ (record { worker = 1; kind = Begin 2 }) ∷ (record { worker = 0; kind = Op 0 1 0 })
    ∷ (record { worker = 1; kind = Op 0 2 1 }) ∷ (record { worker = 0; kind = Commit 1 }) ∷ (record { worker = 1; kind = Abort 2 }) ∷ []

-- then the history is this
abbrev pub after_both : List Event
after_both = one_up ++ since

-- what worker 0 noted
abbrev pub of_first : List Receipt
of_first =
    (record { position = 3; event = record { worker = 0; kind = Begin 1 } }) ∷ (record { position = 5; event = record { worker = 0; kind = Op 0 1 0 } })
    ∷ (record { position = 7; event = record { worker = 0; kind = Commit 1 } }) ∷ []

-- and worker 1
abbrev pub of_second : List Receipt
of_second =
    (record { position = 4; event = record { worker = 1; kind = Begin 2 } }) ∷ (record { position = 6; event = record { worker = 1; kind = Op 0 2 1 } })
    ∷ (record { position = 8; event = record { worker = 1; kind = Abort 2 } }) ∷ []
