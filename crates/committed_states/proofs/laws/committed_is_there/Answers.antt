use Rattle.committed_states.proofs.There.{committed_is_there}
use Rattle.committed_states.proofs.laws.committed_is_there.Goals as goal

pub returns : goal.returns
returns c = committed_is_there c.runs_along.ensures c.ends_inside.ensures c.legal_ends.ensures c.parts_sort.ensures c.struck_part.ensures c.sorts_look.ensures
