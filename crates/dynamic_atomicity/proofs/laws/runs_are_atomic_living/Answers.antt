use Rattle.dynamic_atomicity.proofs.Dynamic.{runs_are_atomic_living}
use Rattle.dynamic_atomicity.proofs.laws.runs_are_atomic_living.Goals as goal

pub returns : goal.returns
returns c =
    runs_are_atomic_living c.runs_along.ensures c.ends_inside.ensures c.legal_ends.ensures c.equi_extends.ensures c.parts_sort.ensures c.struck_part.ensures c.sorts_look.ensures c.sorts_equi.ensures c.lists_forward.ensures
    c.firm_after_apply.ensures c.firm_after_commit.ensures c.firm_after_strike.ensures c.nothing_keeps.ensures c.firm_is_legal.ensures c.fresh_is_firm.ensures c.firm_is_safe.ensures
