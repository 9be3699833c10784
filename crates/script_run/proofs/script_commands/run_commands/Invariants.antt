-- The commands so far were asked, and their lines written; what is remembered of calls is so.
use Rattle.std.proofs.Common.{Ok, take}
use Rattle.store_laws.specs.Stored.{objects}
use Rattle.script_run.specs.Found.{AreRemembered}
use Rattle.script_run.specs.Runs.{RunsCommands}
use Rattle.script_run.proofs.script_commands.run_commands.Given as goal

abbrev pub invariant-loop-place : goal.invariant-loop-place
invariant-loop-place g l = record {
  runs : RunsCommands l.fn.store (take l.place l.fn.commands) (g.W.Out.taken l.fn.out) (g.W.Out.taken l.out) (g.W.Out.fault l.out) l.store (Ok tt);
  found : AreRemembered (objects l.store) l.names l.found;
}
