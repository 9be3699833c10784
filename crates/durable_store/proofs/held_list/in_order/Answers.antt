use Rattle.std.proofs.lemmas.List.Filters.{dedup_is}
use Rattle.durable_store.proofs.HeldNumbers.{in-order}
use Rattle.durable_store.proofs.held_list.in_order.Goals as goal

pub returns : goal.returns
returns c =
    in-order c.args.prepared.now _ _ _ c.in_ok-those.ensures c.sort_unstable.ensures.permutation c.sort_unstable.ensures.sorted (dedup_is _ _ _ c.dedup.ensures.filtered)
