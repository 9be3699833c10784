use Rattle.std.proofs.Common.{◌≡◌, length, arith}
use Rattle.std.proofs.lemmas.List.{length-map}
use Rattle.std.proofs.lemmas.Result.{err_from_is_err_and}
use Rattle.object_trait.specs.Object.{object_of}
use Rattle.script_run.proofs.KeptLines.{none_written, written-more, written-stopped, written-all}
use Rattle.script_run.proofs.kept.write_states.Goals as goal

pub loop-x-init : goal.loop-x-init
loop-x-init g c = none_written c.args.store.now (g.W.Out.taken c.args.out.now) c.requires

pub loop-x-preserved : goal.loop-x-preserved
loop-x-preserved g c = written-more c.args.store.now c.loop-x.x c.loop-x.invariant c.in_ok-write_state.ensures

pub returns-in_err-write_state : goal.returns-in_err-write_state
returns-in_err-write_state g c =
    let (d, returned, same) = err_from_is_err_and c.from_residual.result c.from_residual.ensures.1 in
    rw (returned, same) (written-stopped c.args.store.now c.loop-x.x c.loop-x.invariant c.in_err-write_state.ensures)

pub returns : goal.returns
returns g c =
    let all : c.loop-x.x ≡ length c.args.store.now.types =
    omega (arith, c.loop-x.auto.x-end, c.loop-x-test.false, c.object_count-x-end.ensures, length-map c.args.store.now.types object_of)
    in
    written-all c.args.store.now c.loop-x.x all c.loop-x.invariant
