-- Those so far were run.
use Rattle.std.proofs.Common.{List, map, take}
use Rattle.declared_types.specs.Declarations.{table_of}
use Rattle.object_trait.specs.declared.event.Event.{Event}
use Rattle.history_audit.specs.Commits.{AreCommits}
use Rattle.history_judge.specs.Replay.{AreStates}
use Rattle.history_judge.specs.SerialRun.{IsSerialRunOf}
use Rattle.history_audit.proofs.in_order.run_in_order.Given as goal

abbrev pub invariant-loop-t : goal.invariant-loop-t
invariant-loop-t l = record {
  ready : AreStates (map (λ t. table_of t.now) l.types) l.run.states.items;
  runs : (H : List Event) → AreCommits (map (λ t. table_of t.now) l.types) H l.committed → IsSerialRunOf (map (λ t. table_of t.now) l.types) H (take l.t-index l.order) l.run;
}
