use Rattle.std.proofs.Common.{map, subst, Result}
use Rattle.outputs.specs.declared.out.OutFault.{OutFault}
use Rattle.script_run.specs.Runs.{RunsScript}
use Rattle.object_types.specs.Types.{value_of}
use Rattle.store_commands.proofs.Runs.{run_audited, run_stopped}
use Rattle.store_commands.proofs.run.run_from.Goals as goal
use Rattle.store_commands.proofs.run.run_from.Goals.{in-Ok, in-Err}

pub returns : goal.returns
returns g c =
    let types = map value_of c.args.types.now in
    let Ran : Result (Unit {0}) OutFault → Type 0 = λ r. RunsScript c.args.store c.args.script.now (g.W.Out.taken c.args.out.now) (g.W.Out.taken c.run_script-store.new.out)
    (g.W.Out.fault c.run_script-store.new.out) c.run_script-store.result.0 r in
    elim c.match-written.branch [
      | in-Ok w ↦
          rw (w.told-is, w.out-is)
          (run_audited c.args.script.now types c.args.store _ _ _ _ c.run_script-store.result.0 _ c.requires.fresh (subst Ran w.in-Ok.is c.run_script-store.ensures) _ w.tell_audit-told.ensures)
      | in-Err w ↦
          rw (w.told-is, w.out-is)
          (run_stopped c.args.script.now types c.args.store _ _ _ c.run_script-store.result.0 _ c.requires.fresh (subst Ran w.in-Err.is c.run_script-store.ensures))
    ]
