use Rattle.std.proofs.Common.{◌≡◌, ◌++◌, ◌∙◌, sym, subst}
use Rattle.serial_order.specs.History.{summary}
use Rattle.serial_order.specs.Replay.{open_count}
use Rattle.store_laws.specs.Stored.{Stored}
use Rattle.store.proofs.store.Store.open_count.Goals as goal

pub returns : goal.returns
returns g c =
    let inside = c.self.inside in
    subst (λ (z : Stored). c.open_count.result ≡ open_count (summary z.history)) c.self.view_is
    (c.open_count.ensures.exact ∙ sym (c.rows_are_counted.ensures _ (inside.past.items ++ inside.history.items) c.self.invariant.1.store.kept))
