-- The first operations were run.
use Rattle.std.proofs.Common.{map}
use Rattle.history_judge.specs.Replay.{AreStates, AreReplayed}
use Rattle.declared_types.specs.Declarations.{table_of}
use Rattle.history_judge.proofs.replay.replay.Given as goal

abbrev pub invariant-loop-place : goal.invariant-loop-place
invariant-loop-place l = record {
  ready : AreStates (map (λ t. table_of t.now) l.types) l.states.items;
  replayed : AreReplayed (map (λ t. table_of t.now) l.types) l.fn.states.items l.operations l.place l.states.items l.stop;
}
