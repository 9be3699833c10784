use Rattle.pair_needs.proofs.Parting.{told-undo_list, first-deferred}
use Rattle.pair_needs.proofs.ends.told_at.Goals as goal

pub returns-in_ok-one_way-in-Undo : goal.returns-in_ok-one_way-in-Undo
returns-in_ok-one_way-in-Undo c =
    rw (c.in-Undo.is, c.shown_by.ensures) (told-undo_list c.args.table.now c.args.held c.args.requested c.in_ok-one_way-in-Undo.one_way c.in_ok-one_way-in-Undo.ensures)

pub returns-in_ok-other_way-in-Intentions : goal.returns-in_ok-other_way-in-Intentions
returns-in_ok-other_way-in-Intentions c =
    rw (c.in-Intentions.is, c.first_shown.ensures) (first-deferred c.args.table.now c.args.held c.args.requested c.in_ok-one_way-in-Intentions.one_way c.in_ok-other_way-in-Intentions.other_way
    c.in_ok-one_way-in-Intentions.ensures c.in_ok-other_way-in-Intentions.ensures)
