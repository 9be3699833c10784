use Rattle.exact_tables.specs.Search.{Strikes, LeadsAmong}
use Rattle.exact_tables.proofs.rounds.next_round.Given as goal

abbrev pub invariant-loop-position : goal.invariant-loop-position
invariant-loop-position l = Strikes l.n (LeadsAmong l.table l.before.items l.position) l.initial.search l.search
