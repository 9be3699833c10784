use Rattle.std.proofs.Common.{◌≡◌, ◌<◌}
use Rattle.exact_tables.specs.Search.{Strikes, IsToldAtOnce}
use Rattle.exact_tables.proofs.rounds.first_of.Given as goal

abbrev pub invariant-loop-t : goal.invariant-loop-t
invariant-loop-t l = Strikes 1 (λ a b. (a ≡ l.s) × (b < l.t) × IsToldAtOnce l.table a b) l.initial.search l.search
