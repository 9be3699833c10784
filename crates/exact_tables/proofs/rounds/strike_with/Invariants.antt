use Rattle.std.proofs.Common.{◌≡◌}
use Rattle.exact_tables.specs.Predecessors.{IsAmongFirst}
use Rattle.exact_tables.specs.Search.{Strikes}
use Rattle.exact_tables.proofs.rounds.strike_with.Given as goal

abbrev pub invariant-loop-t : goal.invariant-loop-t
invariant-loop-t l = Strikes l.n (λ a b. (a ≡ l.s) × IsAmongFirst l.seconds l.t-index b) l.initial.search l.search
