use Rattle.std.proofs.Common.{◌≡◌, ap, arith}
use Rattle.store_laws.specs.Stored.{Stored}
use Rattle.store.proofs.Pasts.{past-length}
use Rattle.store.proofs.store.Store.event_count.Goals as goal

pub overflow_cast-result : goal.overflow_cast-result
overflow_cast-result g c =
    let inside = c.self.inside in
    let long = past-length inside.past.items inside.history.items inside.forgotten c.self.invariant.0 in
    let limited = c.self.invariant.1.store.limited in
    omega (arith, long, limited, c.len.ensures, inside.history.ok.0)

pub overflow_add-result : goal.overflow_add-result
overflow_add-result g c =
    let inside = c.self.inside in
    let long = past-length inside.past.items inside.history.items inside.forgotten c.self.invariant.0 in
    let limited = c.self.invariant.1.store.limited in
    omega (arith, long, limited, c.len.ensures, inside.history.ok.0)

pub returns-clause-within : goal.returns-clause-within
returns-clause-within g c =
    let inside = c.self.inside in
    let shown : inside.forgotten ≡ c.args.self.now.forgotten = ap (λ (z : Stored). z.forgotten) c.self.view_is in
    omega (arith, shown, c.len.ensures, inside.history.ok.0)
