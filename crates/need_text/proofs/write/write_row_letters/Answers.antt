use Rattle.need_text.specs.Text.{letter_text}
use Rattle.pair_needs.specs.declared.explained.Explained.{Explained}
use Rattle.need_text.proofs.Writing.{items_exit}
use Rattle.need_text.proofs.write.write_row_letters.Goals as goal

pub returns-in_err-write_letter : goal.returns-in_err-write_letter
returns-in_err-write_letter g c =
    items_exit c.items_in_turn.ensures (λ (x : Explained). letter_text x) c.args.pairs.now c.loop-pair.pair-index c.pair-item.result c.loop-pair-test.true c.pair-item.is
    c.loop-pair.invariant c.in_err-write_letter.ensures c.from_residual.ensures.1
