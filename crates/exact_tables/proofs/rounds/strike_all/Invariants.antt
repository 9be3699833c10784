use Rattle.exact_tables.specs.Predecessors.{IsAmong, IsAmongFirst}
use Rattle.exact_tables.specs.Search.{Strikes}
use Rattle.exact_tables.proofs.rounds.strike_all.Given as goal

abbrev pub invariant-loop-s : goal.invariant-loop-s
invariant-loop-s l = Strikes l.n (λ a b. IsAmongFirst l.firsts l.s-index a × IsAmong l.seconds b) l.initial.search l.search
