use Rattle.carried_runs.proofs.Carrying.{carried_in_any_order}
use Rattle.carried_runs.proofs.laws.carried_in_any_order.Goals as goal

pub returns : goal.returns
returns c =
    carried_in_any_order c.runs_along.ensures c.runs_alike.ensures c.ends_inside.ensures c.legal_ends.ensures c.parts_sort.ensures c.struck_part.ensures c.sorts_look.ensures c.lists_forward.ensures c.firm_after_apply.ensures c.firm_after_commit.ensures c.firm_after_strike.ensures
    c.nothing_keeps.ensures c.firm_is_legal.ensures c.fresh_is_firm.ensures c.firm_is_safe.ensures c.safe_is_firm.ensures c.firm_keeps_nobody.ensures c.checked_is_covered.ensures c.at_is_checked.ensures
