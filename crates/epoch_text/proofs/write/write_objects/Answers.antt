use Rattle.std.proofs.Common.{Err, subst}
use Rattle.outputs.specs.Out.{Puts}
use Rattle.history_text.specs.Canonical.{object_line}
use Rattle.history_text.proofs.Writing.{line_text, lines_exit}
use Rattle.epoch_text.proofs.write.write_objects.Goals as goal

pub returns-in_err-write_object : goal.returns-in_err-write_object
returns-in_err-write_object g c =
    let stop = subst (λ o. Puts (g.W.Out.taken c.loop-object.out) (g.W.Out.taken c.write_object.new.out) (g.W.Out.fault c.write_object.new.out) (line_text (object_line o)) (Err c.in_err-write_object.field-0.0)) c.object-item.is c.in_err-write_object.ensures in
    lines_exit c.items_in_turn.ensures object_line c.args.objects.now c.loop-object.object-index c.object-item.result c.loop-object-test.true c.loop-object.invariant stop c.from_residual.ensures.1
