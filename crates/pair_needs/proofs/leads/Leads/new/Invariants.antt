use Rattle.pair_needs.specs.Search.{IsSearched}
use Rattle.pair_needs.proofs.leads.Leads.new.Given as goal

abbrev pub invariant-loop-place : goal.invariant-loop-place
invariant-loop-place l = IsSearched l.table l.place 0 l.leads
