use Rattle.table_families.specs.Queue.{queue}
use Rattle.table_families.specs.Seats.{seats}
use Rattle.table_families.specs.Semiqueue.{semiqueue}
use Rattle.table_families.specs.Set.{set}
use Rattle.made_answers.proofs.laws.elements_are_accepted.Goals as goal

pub returns : goal.returns
returns c = λ elements number. record {
  sets = c.lone_states_are_strong.ensures (set elements) (c.sets_have_lone_states.ensures elements);
  semiqueues = c.lone_states_are_strong.ensures (semiqueue elements number) (c.semiqueues_have_lone_states.ensures elements number);
  queues = c.lone_states_are_strong.ensures (queue elements number) (c.queues_have_lone_states.ensures elements number);
  seats = c.lone_states_are_strong.ensures (seats number) (c.seats_have_lone_states.ensures number);
}
