use Rattle.std.proofs.Common.{◌++◌}
use Rattle.store.proofs.Admitted.{admits-nothing, admits-object}
use Rattle.store.proofs.store.Store.admits.Goals as goal

pub returns-in-Some : goal.returns-in-Some
returns-in-Some g c =
    let inside = c.self.inside in
    let both =
    admits-object c.allows_alike.ensures c.stopper_is_blocker.ensures g.R.Recovery.meaning inside.objects.items c.deref.result.now inside.transactions.rows (inside.past.items ++ inside.history.items) inside.limits
    inside.forgotten c.args.self.now c.args.t c.args.x c.args.k c.self.view_is c.deref.ensures.value c.self.invariant.1.store.kept c.requires c.in-Some.object.now c.in-Some.ensures.lookup.0 c.in-Some.ensures.lookup.1 in
    let its = c.is_admitted.ensures in
    ((λ yes. both.0 (its.0 yes)), (λ may. its.1 (both.1 may)))

pub returns-in-None : goal.returns-in-None
returns-in-None g c =
    let inside = c.self.inside in (
      (λ yes. absurd cc),
      (λ may.
          absurd
          (admits-nothing c.allows_alike.ensures c.stopper_is_blocker.ensures g.R.Recovery.meaning inside.objects.items c.deref.result.now inside.transactions.rows (inside.past.items ++ inside.history.items) inside.limits
          inside.forgotten c.args.self.now c.args.t c.args.x c.args.k c.self.view_is c.deref.ensures.value c.self.invariant.1.store.kept c.requires c.in-None.ensures.lookup.0 may)),
    )
