use Rattle.std.proofs.Common.{refl, ap}
use Rattle.open_transactions.specs.Transactions.{kept}
use Rattle.open_transactions.proofs.Calls.{set-known, set-changes}
use Rattle.open_transactions.proofs.open_transactions.OpenTransactions.keep_places.Goals as goal

pub invariant_of-self : goal.invariant_of-self
invariant_of-self c =
    set-known c.self.inside.slots.items c.self.inside.index.slots c.self.invariant c.args.self.now.rows (ap (λ a. a.rows) c.self.view_is) c.args.t c.open_slot-slot.result c.requires c.open_slot-slot.ensures
    c.index_mut.result.now _ c.index_mut.ensures.value refl

pub returns : goal.returns
returns c =
    set-changes c.self.inside.slots.items c.self.inside.index.slots c.self.invariant c.args.self.now.rows (ap (λ a. a.rows) c.self.view_is) c.args.t c.open_slot-slot.result c.requires c.open_slot-slot.ensures
    c.index_mut.result.now _ (kept c.args.n) c.index_mut.ensures.value (ap (λ items. record { worker = c.index_mut.result.now.worker; places = items }) c.truncate.ensures.items)
