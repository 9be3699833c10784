use Rattle.std.proofs.Common.{◌≡◌, ◌↔◌, true, map, ap, subst, ◌∙◌}
use Rattle.carried_orders.specs.Orders.{AreStrong}
use Rattle.store_laws.specs.Stored.{Stored, types_of}
use Rattle.store.proofs.store.Store.is_strong.Goals as goal

pub returns : goal.returns
returns g c =
    subst (λ ts. (c.are_strong.result ≡ true) ↔ AreStrong ts) (ap (λ xs. types_of (map g.R.Recovery.meaning xs)) c.deref.ensures.value ∙ ap (λ (z : Stored). z.types) c.self.view_is)
    c.are_strong.ensures
