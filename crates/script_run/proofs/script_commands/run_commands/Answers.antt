use Rattle.std.proofs.lemmas.Result.{err_from_is_err_and}
use Rattle.store_laws.specs.Stored.{objects}
use Rattle.script_run.proofs.Commands.{no_commands, kept-more, kept-stop_at}
use Rattle.script_run.proofs.script_commands.run_commands.Goals as goal

pub loop-place-init : goal.loop-place-init
loop-place-init g c = record {
  runs = no_commands c.args.store.now (g.W.Out.taken c.args.out.now) c.requires;
  found = c.nothing_found-found.ensures (objects c.args.store.now) c.kept-kept.result.names.now;
}

pub returns-in_err-run_command : goal.returns-in_err-run_command
returns-in_err-run_command g c =
    let (d, returned, same) = err_from_is_err_and c.from_residual.result c.from_residual.ensures.1 in
    rw (returned, same)
    (kept-stop_at c.kept-kept.result.names.now c.kept-kept.result.commands.now c.args.commands.now c.kept-kept.ensures.said c.loop-place.place c.command_at-command.result c.command_at-command.ensures
    c.args.store.now c.loop-place.store c.run_command.new.store c.loop-place.invariant.runs c.in_err-run_command.ensures.runs)

pub loop-place-preserved : goal.loop-place-preserved
loop-place-preserved g c = record {
  runs =
      kept-more c.kept-kept.result.names.now c.kept-kept.result.commands.now c.args.commands.now c.kept-kept.ensures.said c.loop-place.place c.command_at-command.result c.command_at-command.ensures
      c.args.store.now c.loop-place.store c.run_command.new.store c.loop-place.invariant.runs c.in_ok-run_command.ensures.runs;
  found = c.in_ok-run_command.ensures.found;
}
