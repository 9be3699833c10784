use Rattle.std.proofs.Common.{[], ◌∷◌, refl}
use Rattle.std.proofs.lemmas.Result.{err_from_is_err_and}
use Rattle.script_run.specs.Turns.{end_turn}
use Rattle.script_run.proofs.KeptLines.{none_kept}
use Rattle.script_run.proofs.Scripts.{last-aborts, last-more, script-objects, script-commands, script-last}
use Rattle.script_run.proofs.Turns.{one_turn, join}
use Rattle.script_run.proofs.run.write_run.Goals as goal

pub returns-in_err-write_objects : goal.returns-in_err-write_objects
returns-in_err-write_objects g c =
    let s = c.args.store.now in
    let lines = rw c.as_slice.ensures.value at (c.in_err-write_objects.ensures.writes s) in
    let (d, returned, same) = err_from_is_err_and c.from_residual.result c.from_residual.ensures.1 in
    rw (returned, same) (script-objects s c.args.script.now lines)

pub returns-in_err-run_commands : goal.returns-in_err-run_commands
returns-in_err-run_commands g c =
    let s = c.args.store.now in
    let lines = rw c.as_slice.ensures.value at (c.in_ok-write_objects.ensures.writes s) in
    let asked = c.in_err-run_commands.ensures in
    let (d, returned, same) = err_from_is_err_and c.from_residual-in_err-run_commands.result c.from_residual-in_err-run_commands.ensures.1 in
    rw (returned, same) (script-commands s c.run_commands.new.store c.args.script.now lines asked)

pub returns-in_err-abort_all : goal.returns-in_err-abort_all
returns-in_err-abort_all g c =
    let s = c.args.store.now in
    let lines = rw c.as_slice.ensures.value at (c.in_ok-write_objects.ensures.writes s) in
    let asked = c.in_ok-run_commands.ensures in
    let mid = c.run_commands.new.store in
    let new = c.abort_all.new.store in
    let (d, returned, same) = err_from_is_err_and c.from_residual-in_err-abort_all.result c.from_residual-in_err-abort_all.ensures.1 in
    rw (returned, same)
    (script-last s mid new c.args.script.now [] lines asked (last-aborts mid new c.in_err-abort_all.ensures)
    (none_kept new) tt)

pub returns-in_err-put_line : goal.returns-in_err-put_line
returns-in_err-put_line g c =
    let s = c.args.store.now in
    let lines = rw c.as_slice.ensures.value at (c.in_ok-write_objects.ensures.writes s) in
    let asked = c.in_ok-run_commands.ensures in
    let mid = c.run_commands.new.store in
    let closed = c.abort_all.new.store in
    let (d, returned, same) = err_from_is_err_and c.from_residual-in_err-put_line.result c.from_residual-in_err-put_line.ensures.1 in
    let end = one_turn closed closed (end_turn closed.history) refl c.in_err-put_line.ensures in
    rw (returned, same)
    (script-last s mid closed c.args.script.now [] lines asked
    (last-more mid closed closed [] c.in_ok-abort_all.ensures end) (none_kept closed) tt)

pub returns : goal.returns
returns g c =
    let s = c.args.store.now in
    let lines = rw c.as_slice.ensures.value at (c.in_ok-write_objects.ensures.writes s) in
    let asked = c.in_ok-run_commands.ensures in
    let mid = c.run_commands.new.store in
    let closed = c.abort_all.new.store in
    let its = c.write_states.ensures in
    let end = one_turn closed closed (end_turn closed.history) refl c.in_ok-put_line.ensures in
    script-last s mid closed c.args.script.now its.kept lines asked
    (last-more mid closed closed its.kept c.in_ok-abort_all.ensures (join closed closed closed (end_turn closed.history ∷ []) _ end its.writes)) its.are_kept its.all
