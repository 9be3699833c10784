use Rattle.std.proofs.Common.{◌<◌}
use Rattle.exact_tables.specs.Search.{Strikes, IsToldAtOnce}
use Rattle.exact_tables.proofs.rounds.first_round.Given as goal

abbrev pub invariant-loop-s : goal.invariant-loop-s
invariant-loop-s l = Strikes 1 (λ a b. (a < l.s) × IsToldAtOnce l.table a b) l.initial.search l.search
