use Rattle.std.proofs.Common.{◌≡◌, take}
use Rattle.store.specs.Replays.{AreMade, with_events}
use Rattle.store.proofs.event_replay.replay.Given as goal

-- the first events were made
abbrev pub invariant-loop-at : goal.invariant-loop-at
invariant-loop-at g l = AreMade l.fn.store (take l.at l.events) × (l.store ≡ with_events l.fn.store (take l.at l.events))
