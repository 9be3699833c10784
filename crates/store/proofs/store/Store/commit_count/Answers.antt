use Rattle.std.proofs.Common.{length, ap, ◌∙◌}
use Rattle.serial_order.specs.History.{commits}
use Rattle.store_laws.specs.Stored.{Stored}
use Rattle.store.proofs.store.Store.commit_count.Goals as goal

pub returns : goal.returns
returns g c = c.self.invariant.2 ∙ ap (λ (s : Stored). length (commits s.history)) c.self.view_is
