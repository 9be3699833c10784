use Rattle.carried_runs.proofs.Unseen.{renewal_is_unseen}
use Rattle.carried_runs.proofs.laws.renewal_is_unseen.Goals as goal

pub returns : goal.returns
returns c =
    renewal_is_unseen c.runs_along.ensures c.runs_alike.ensures c.legal_ends.ensures c.parts_sort.ensures c.struck_part.ensures c.sorts_look.ensures c.sorts_equi.ensures
    c.firm_after_apply.ensures c.firm_after_commit.ensures c.firm_after_strike.ensures c.nothing_keeps.ensures c.firm_is_legal.ensures c.fresh_is_firm.ensures
    c.firm_is_safe.ensures c.safe_is_firm.ensures c.firm_keeps_nobody.ensures c.checked_is_covered.ensures c.at_is_checked.ensures
