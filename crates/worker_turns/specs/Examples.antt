-- Small jobs and workers, worked by hand.
use Rattle.std.specs.Prelude.{ℕ, List, [], ◌∷◌, take, codes}
use Rattle.type_table.specs.declared.kind.Kind.TheVariants.{Escrow}
use Rattle.number_types.specs.Examples.{purse}
use Rattle.declared_types.specs.Declarations.{number_file}
use Rattle.object_trait.specs.Object.{Object, object_of}
use Rattle.object_trait.specs.declared.event.EventKind.{EventKind}
use Rattle.object_trait.specs.declared.event.EventKind.TheVariants.{Begin, Op, Busy, Commit, Abort}
use Rattle.store_laws.specs.Stored.{objects}
use Rattle.store_laws.specs.Examples.{stored}
use Rattle.jobs_text.specs.Jobs.{Call}
use Rattle.worker_turns.specs.Progress.{Progress}
use Rattle.worker_turns.specs.declared.outcome.Receipt.{Receipt}
use Rattle.worker_turns.specs.declared.phase.Phase.{Phase}

-- ---- tries

-- two counters: operation 0 counts up, and operation 1 down
abbrev pub counters : List Object
counters = objects (stored [])

-- a job that counts up at the first and down again
abbrev pub up_and_down_calls : List Call
up_and_down_calls = (0, codes "inc:1") ∷ (0, codes "dec:1") ∷ []

-- one that counts up, and calls at an object that isn't there
abbrev pub up_and_away : List Call
up_and_away = (0, codes "inc:1") ∷ (9, codes "inc:1") ∷ []

-- transaction 2 counts up, and finds transaction 1 in its way
abbrev pub in_the_way : List EventKind
in_the_way = Begin 2 ∷ Op 0 2 0 ∷ Busy 1 2 0 1 ∷ Abort 2 ∷ []

-- transaction 3 makes both calls
abbrev pub both_made : List EventKind
both_made = Begin 3 ∷ Op 0 3 0 ∷ Op 1 3 0 ∷ Commit 3 ∷ []

-- transaction 4 makes the first call alone
abbrev pub first_made : List EventKind
first_made = Begin 4 ∷ Op 0 4 0 ∷ Abort 4 ∷ []

-- a purse of 0 to 9, from which any amount may be taken
abbrev pub purses : List Object
purses = object_of (record { kind = Escrow; file = number_file purse }) ∷ []

-- ---- turns

-- what worker 7 notes of its begin, its call, and its commit
abbrev pub told_by_seven : List Receipt
told_by_seven =
    (record { position = 0; event = record { worker = 7; kind = Begin 0 } }) ∷ (record { position = 1; event = record { worker = 7; kind = Op 0 0 1 } })
    ∷ (record { position = 2; event = record { worker = 7; kind = Commit 0 } }) ∷ []

-- it has one job, to count up at the second counter, and two tries; it noted the first of these and is here
abbrev pub counting : Phase → ℕ → Progress
counting phase n = record {
  jobs = ((1, codes "inc:1") ∷ []) ∷ [];
  tries = 2;
  receipts = take n told_by_seven;
  outcomes = [];
  broken = 0;
  phase = phase;
}

-- its call is at an object that isn't there
abbrev pub away : Phase → ℕ → Progress
away phase n = record (counting phase n) { jobs = ((9, codes "inc:1") ∷ []) ∷ [] }
