use Rattle.std.proofs.Common.{◌∙◌, ◌&&◌, false, not, ap}
use Rattle.std.specs.List.{count_by, slice_index_or}
use Rattle.serial_order.specs.History.{is_begin}
use Rattle.key_commands.specs.Endings.{is_end_of}
use Rattle.key_commands.proofs.Marks.{marked_all, marked_more}
use Rattle.key_commands.proofs.endings.open_marks.Goals as goal

pub loop-kind-preserved : goal.loop-kind-preserved
loop-kind-preserved c = λ u.
    marked_more (count_by is_begin c.args.happened.now) u c.args.happened.now c.loop-kind.kind-index c.kind-item.result _ _ c.loop-kind-test.true (c.loop-kind.invariant u)
    (c.note.ensures u ∙ ap (λ k. slice_index_or c.loop-kind.marks.items u false && not (is_end_of u k)) c.kind-item.is)

pub returns : goal.returns
returns c = λ t. marked_all t c.args.happened.now c.loop-kind.kind-index _ c.loop-kind-test.false (c.loop-kind.invariant t)
