use Rattle.std.proofs.Common.{map, subst}
use Rattle.carried_orders.specs.Merging.{AreAtEnds}
use Rattle.carried_orders.proofs.Stepping.{whole-events}
use Rattle.carried_orders.proofs.merging.whole.Goals as goal

pub returns : goal.returns
returns g c = λ rows so_far.
    let ms = map g.R.Recovery.meaning c.args.objects.now in
    whole-events ms rows c.args.those.now c.args.merge.heads.items c.args.merge.counts.items c.args.merge.events.items so_far
    (subst (AreAtEnds ms c.args.those.now) c.deref.ensures.value (c.are_at_ends.ensures c.if-not-are_at_ends.false))
