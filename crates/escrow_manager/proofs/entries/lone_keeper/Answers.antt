use Rattle.std.proofs.Common.{sym, ◌∙◌}
use Rattle.escrow_manager.proofs.Lone.{none-alone}
use Rattle.escrow_manager.proofs.entries.lone_keeper.Goals as goal

pub returns-else-another_moves_far : goal.returns-else-another_moves_far
returns-else-another_moves_far c =
    sym
    (none-alone c.args.base c.args.top c.args.t c.requires.legal c.args.marks.now.items (sym c.another_moves_far.ensures ∙ c.if-another_moves_far.false) c.args.totals.fallen c.args.totals.risen c.args.log.now.items)
