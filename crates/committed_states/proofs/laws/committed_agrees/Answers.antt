use Rattle.committed_states.proofs.Agreeing.{committed_agrees}
use Rattle.committed_states.proofs.laws.committed_agrees.Goals as goal

pub returns : goal.returns
returns c = committed_agrees c.runs_along.ensures c.parts_sort.ensures c.struck_part.ensures c.sorts_look.ensures c.sorts_equi.ensures
