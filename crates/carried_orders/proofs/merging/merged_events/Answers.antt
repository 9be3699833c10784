use Rattle.std.proofs.Common.{◌≡◌, ◌≤◌, map, replicate, sym, ap, ◌∙◌, arith}
use Rattle.std.proofs.lemmas.List.{length-map}
use Rattle.carried_orders.proofs.Stepping.{so-far-none}
use Rattle.carried_orders.proofs.merging.merged_events.Goals as goal

pub loop-init : goal.loop-init
loop-init g c = record {
  so_far =
      so-far-none (map g.R.Recovery.meaning c.args.objects.now) c.args.transactions.now.rows c.args.those.now c.in_ok-merge.merge.heads.items c.in_ok-merge.merge.counts.items c.in_ok-merge.merge.events.items
      c.in_ok-merge.ensures.events (c.in_ok-merge.ensures.heads ∙ ap (λ n. replicate n 0) (sym (length-map c.args.objects.now g.R.Recovery.meaning))) c.in_ok-merge.ensures.counts;
  first = omega arith;
  there = λ some. some;
}
