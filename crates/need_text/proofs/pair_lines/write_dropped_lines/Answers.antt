use Rattle.std.proofs.Common.{Ok}
use Rattle.need_text.specs.Text.{dropped_line}
use Rattle.need_text.proofs.Writing.{ranges_more, ranges_exit}
use Rattle.need_text.proofs.pair_lines.write_dropped_lines.Goals as goal

pub returns-in_err-put_if : goal.returns-in_err-put_if
returns-in_err-put_if g c =
    let below = rw c.states-s-end.ensures.exact at c.loop-s-test.true in
    let stop = rw c.is_dropped.ensures at c.in_err-put_if.ensures in
    ranges_exit c.items_in_turn.ensures (dropped_line c.args.file.now c.args.led.now) _ c.loop-s.s below c.loop-s.invariant stop c.from_residual.ensures.1

pub loop-s-preserved : goal.loop-s-preserved
loop-s-preserved g c =
    let next = rw c.is_dropped.ensures at c.in_ok-put_if.ensures in
    ranges_more c.texts_in_turn.ensures.joined {result = Ok tt} (dropped_line c.args.file.now c.args.led.now) c.loop-s.s c.loop-s.invariant next
