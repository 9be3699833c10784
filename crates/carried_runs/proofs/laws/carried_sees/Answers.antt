use Rattle.carried_runs.proofs.InRun.{carried_sees}
use Rattle.carried_runs.proofs.laws.carried_sees.Goals as goal

pub returns : goal.returns
returns c =
    carried_sees c.runs_along.ensures c.ends_inside.ensures c.legal_ends.ensures c.parts_sort.ensures c.struck_part.ensures c.sorts_look.ensures c.sorts_equi.ensures c.lists_forward.ensures c.firm_after_apply.ensures c.firm_after_commit.ensures c.firm_after_strike.ensures
    c.nothing_keeps.ensures c.firm_is_legal.ensures c.fresh_is_firm.ensures
