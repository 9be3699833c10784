use Rattle.std.proofs.Common.{◌-◌, ap, arith}
use Rattle.open_transactions.specs.Index.{ended}
use Rattle.open_transactions.proofs.Cut.{set-begun, set-shows}
use Rattle.open_transactions.proofs.slot_index.SlotIndex.end.Goals as goal

pub invariant_of-self : goal.invariant_of-self
invariant_of-self c =
    let inside = c.self.inside in
    omega (arith, c.self.invariant, set-begun inside.cut inside.slots.items (c.args.t - inside.cut) ended)

pub returns : goal.returns
returns c =
    set-shows c.self.inside.cut c.self.inside.slots.items c.args.t c.args.self.now.slots (ap (λ a. a.slots) c.self.view_is) c.requires ended
