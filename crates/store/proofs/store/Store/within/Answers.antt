use Rattle.std.proofs.lemmas.List.{length-map}
use Rattle.std.proofs.Common.{◌≤◌, subst, ◌+◌, ◌++◌, map, length, vec_capacity, sym, ap, ◌∙◌}
use Rattle.serial_order.specs.History.{commits}
use Rattle.store.proofs.Beginnings.{new-whole}
use Rattle.store.proofs.store.Store.within.Goals as goal

pub invariant_of-result : goal.invariant_of-result
invariant_of-result g c =
    let ms = map g.R.Recovery.meaning c.args.objects.items in
    let made = c.in-Ok.ensures in (
      sym (ap length c.new-2.ensures),
      new-whole c.new_is_kept.ensures c.args.greatest ms c.in-Ok.held.calls.items c.new.result.rows (c.new-2.result.items ++ c.new-3.result.items) (0 + vec_capacity c.new-3.result) c.args.limits c.in-Ok.held.counts
          made.may made.checked made.calls (subst (λ n. n ≤ c.in-Ok.held.counts) (sym (length-map c.args.objects.items g.R.Recovery.meaning)) made.placed) c.new.ensures (ap (λ p. p ++ c.new-3.result.items) c.new-2.ensures ∙ c.new-3.ensures.items),
      sym (ap (λ H. length (commits H)) (ap (λ p. p ++ c.new-3.result.items) c.new-2.ensures ∙ c.new-3.ensures.items)),
    )
