use Rattle.std.proofs.Common.{◌≤◌, ◌<◌, length, map}
use Rattle.carried_orders.specs.Merging.{IsMergedSoFar}
use Rattle.carried_orders.proofs.merging.merged_events.Given as goal

abbrev pub invariant-loop : goal.invariant-loop
invariant-loop g l = record {
  so_far : IsMergedSoFar (map g.R.Recovery.meaning l.objects) l.transactions.rows l.those l.merge.heads.items l.merge.counts.items l.merge.events.items;
  first : l.first ≤ length l.those;
  there : l.first < length l.those → l.at < length l.those;
}
