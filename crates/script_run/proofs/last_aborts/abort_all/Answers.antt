use Rattle.std.proofs.Common.{◌≡◌, ◌<◌, arith}
use Rattle.serial_order.specs.History.{summary}
use Rattle.store_laws.specs.Stored.{objects}
use Rattle.std.proofs.lemmas.Result.{err_from_is_err_and}
use Rattle.script_run.proofs.Aborts.{none-met, met-more, met-stopped, met-all}
use Rattle.script_run.proofs.Turns.{no_turns}
use Rattle.script_run.proofs.last_aborts.abort_all.Goals as goal

pub loop-t-init : goal.loop-t-init
loop-t-init g c = none-met c.args.store.now (g.W.Out.taken c.args.out.now) (no_turns c.args.store.now (g.W.Out.taken c.args.out.now) c.requires)

pub loop-t-preserved : goal.loop-t-preserved
loop-t-preserved g c =
    met-more c.summary_after.ensures c.transactions_in_run.ensures c.opens_after.ensures (objects c.loop-t.store) c.args.store.now c.loop-t.store c.abort_open.new.store c.loop-t.t
    c.known.ensures.run c.loop-t.invariant c.in_ok-abort_open.ensures

pub returns-in_err-abort_open : goal.returns-in_err-abort_open
returns-in_err-abort_open g c =
    let (d, returned, same) = err_from_is_err_and c.from_residual.result c.from_residual.ensures.1 in
    let low : c.loop-t.t < (summary c.args.store.now.history).begun = omega (arith, c.loop-t-test.true, c.begun-t-end.ensures) in
    rw (returned, same) (met-stopped c.args.store.now c.loop-t.store c.abort_open.new.store c.loop-t.t low c.loop-t.invariant c.in_err-abort_open.ensures)

pub returns : goal.returns
returns g c =
    let all : c.loop-t.t ≡ (summary c.args.store.now.history).begun = omega (arith, c.loop-t.auto.t-end, c.loop-t-test.false, c.begun-t-end.ensures) in
    met-all c.args.store.now c.loop-t.store c.loop-t.t all c.loop-t.invariant
