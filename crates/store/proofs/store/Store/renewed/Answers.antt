use Rattle.std.proofs.Common.{◌++◌, map}
use Rattle.store.proofs.Renewals.{renews}
use Rattle.store.proofs.store.Store.renewed.Goals as goal

pub renewed_objects-requires-after_bounds : goal.renewed_objects-requires-after_bounds
renewed_objects-requires-after_bounds g c κs within = λ x m s there is.
    let its = c.self.invariant.1.store.kept.objects x m there in
    c.states_are_inside.ensures m s its.checked its.sound is

pub returns-in-Ok : goal.returns-in-Ok
returns-in-Ok g c =
    let inside = c.self.inside in
    let meaning = g.R.Recovery.meaning in
    renews c.checked_headline.ensures c.runs_along.ensures c.closed_is_epoch.ensures (map meaning inside.objects.items) (map meaning c.in_ok-objects.objects.items) inside.transactions.rows
    (inside.past.items ++ inside.history.items) inside.limits inside.forgotten c.args.self.now c.in-Ok.store c.self.view_is c.self.invariant.1.store.kept c.requires
    c.in_ok-objects.ensures c.in-Ok.ensures.made.1
