use Rattle.made_answers.proofs.Alone.{lone_states_are_strong}
use Rattle.made_answers.proofs.laws.lone_states_are_strong.Goals as goal

pub returns : goal.returns
returns c = lone_states_are_strong c.alone_is_strong.ensures c.made_is_exact.ensures c.made_is_strong.ensures c.families_have_closed_sets.ensures c.families_are_accepted.ensures
