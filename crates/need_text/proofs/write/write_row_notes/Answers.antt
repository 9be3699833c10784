use Rattle.std.proofs.Common.{Ok}
use Rattle.std.specs.Prelude.{[], if◌then◌else◌}
use Rattle.need_text.specs.Text.{is_plain, pair_text}
use Rattle.pair_needs.specs.declared.explained.Explained.{Explained}
use Rattle.need_text.proofs.Writing.{items_exit, items_more}
use Rattle.need_text.proofs.write.write_row_notes.Goals as goal

pub returns-in_err-write_if_noted : goal.returns-in_err-write_if_noted
returns-in_err-write_if_noted g c =
    items_exit c.items_in_turn.ensures (λ (x : Explained). if is_plain x then [] else pair_text c.args.kind c.args.file.now c.args.led.now x) c.args.pairs.now c.loop-pair.pair-index c.pair-item.result c.loop-pair-test.true c.pair-item.is
    c.loop-pair.invariant c.in_err-write_if_noted.ensures c.from_residual.ensures.1

pub loop-pair-preserved : goal.loop-pair-preserved
loop-pair-preserved g c =
    items_more c.texts_in_turn.ensures.joined {result = Ok tt} (λ (x : Explained). if is_plain x then [] else pair_text c.args.kind c.args.file.now c.args.led.now x) c.args.pairs.now c.loop-pair.pair-index c.pair-item.result c.loop-pair-test.true
    c.pair-item.is c.loop-pair.invariant c.in_ok-write_if_noted.ensures
