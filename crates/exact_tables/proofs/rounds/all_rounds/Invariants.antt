use Rattle.std.proofs.Common.{◌+◌, ◌*◌, ◌≤◌, ◌<◌, length}
use Rattle.exact_tables.specs.Search.{AfterRounds, unknown}
use Rattle.exact_tables.proofs.rounds.all_rounds.Given as goal

abbrev pub invariant-loop-n : goal.invariant-loop-n
invariant-loop-n l = record {
  some : 0 < l.n;
  after : AfterRounds l.table l.n l.search;
  left : length l.search.found + unknown l.search + l.n ≤ l.states * l.states + 1;
}
