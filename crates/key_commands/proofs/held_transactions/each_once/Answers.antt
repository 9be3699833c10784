use Rattle.std.proofs.Common.{◌≡◌, ◌∙◌, ap}
use Rattle.std.proofs.lemmas.List.Filters.{dedup_is}
use Rattle.serial_order.specs.Operations.{is_among}
use Rattle.store.proofs.SortedNumbers.{sorted-once}
use Rattle.key_commands.proofs.held_transactions.each_once.Goals as goal

pub returns-clause-ascend : goal.returns-clause-ascend
returns-clause-ascend c = (sorted-once _ _ _ c.sort_unstable.ensures.permutation c.sort_unstable.ensures.sorted (dedup_is _ _ _ c.dedup.ensures.filtered)).0

pub returns-clause-same : goal.returns-clause-same
returns-clause-same c =
    let copied : c.in_ok-once.once.items ≡ c.args.objects.now = c.in_ok-once.ensures.items_if_clones_equal (λ x y same. same) in
    λ x.
    (sorted-once _ _ _ c.sort_unstable.ensures.permutation c.sort_unstable.ensures.sorted (dedup_is _ _ _ c.dedup.ensures.filtered)).1 x ∙ ap (λ xs. is_among xs x) copied
