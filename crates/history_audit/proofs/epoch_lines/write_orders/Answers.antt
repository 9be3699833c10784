use Rattle.std.specs.List.{enumerate_from}
use Rattle.outputs.proofs.Turns.{Puts-append, Puts-exit_at}
use Rattle.history_audit.specs.EpochText.{order_lines}
use Rattle.history_audit.proofs.PlacedTexts.{is_placed, text-at, texts-more, texts-all}
use Rattle.history_audit.proofs.epoch_lines.write_orders.Goals as goal

pub returns-in_err-write_order : goal.returns-in_err-write_order
returns-in_err-write_order g c =
    let audits = c.args.audits.now in
    let inside = c.loop-epoch-test.true in
    let audit = c.index-audits-epoch.result in
    let stop = text-at order_lines audits c.loop-epoch.epoch audit inside audit c.index-audits-epoch.is c.in_err-write_order.ensures in
    Puts-exit_at c.items_in_turn.ensures order_lines (enumerate_from 0 audits) c.loop-epoch.epoch (0, audit) (is_placed order_lines audits c.loop-epoch.epoch audit inside) c.loop-epoch.invariant stop
    c.from_residual.ensures.1

pub loop-epoch-preserved : goal.loop-epoch-preserved
loop-epoch-preserved g c =
    rw (texts-more order_lines c.args.audits.now c.loop-epoch.epoch c.index-audits-epoch.result c.loop-epoch-test.true c.index-audits-epoch.result c.index-audits-epoch.is)
    (Puts-append c.texts_in_turn.ensures.joined c.loop-epoch.invariant c.in_ok-write_order.ensures)

pub returns : goal.returns
returns g c = rw (texts-all c.args.audits.now c.loop-epoch.epoch c.loop-epoch-test.false) at c.loop-epoch.invariant
