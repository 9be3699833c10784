use Rattle.exact_tables.specs.Search.{Strikes, LeadsBelow}
use Rattle.exact_tables.proofs.rounds.strike_before.Given as goal

abbrev pub invariant-loop-k : goal.invariant-loop-k
invariant-loop-k l = Strikes l.n (LeadsBelow l.table l.s l.t l.k) l.initial.search l.search
