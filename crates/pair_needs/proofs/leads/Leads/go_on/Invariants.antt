use Rattle.std.proofs.Common.{◌≤◌, length}
use Rattle.pair_needs.specs.Search.{IsSearched}
use Rattle.pair_needs.proofs.leads.Leads.go_on.Given as goal

abbrev pub invariant-loop-k : goal.invariant-loop-k
invariant-loop-k l = record {
  searched : IsSearched l.table l.place l.k l.self;
  more : length l.initial.self.found.items ≤ length l.self.found.items;
}
