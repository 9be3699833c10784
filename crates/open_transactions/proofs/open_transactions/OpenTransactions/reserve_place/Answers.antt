use Rattle.std.proofs.lemmas.Result.{on_ok_weaker}
use Rattle.std.proofs.Common.{refl, ap, ◌∙◌, arith}
use Rattle.open_transactions.proofs.Calls.{rows-same, set-known, set-room}
use Rattle.open_transactions.proofs.open_transactions.OpenTransactions.reserve_place.Goals as goal

pub invariant_of-self : goal.invariant_of-self
invariant_of-self c =
    set-known c.self.inside.slots.items c.self.inside.index.slots c.self.invariant c.args.self.now.rows (ap (λ a. a.rows) c.self.view_is) c.args.t c.open_slot-slot.result c.requires c.open_slot-slot.ensures
    c.index_mut.result.now _ c.index_mut.ensures.value refl

pub returns-clause-rows : goal.returns-clause-rows
returns-clause-rows c =
    rows-same c.self.inside.slots.items c.self.inside.index.slots c.open_slot-slot.result c.index_mut.result.now _ c.index_mut.ensures.value
    (ap (λ items. record { worker = c.index_mut.result.now.worker; places = items }) c.reserve_one.ensures.items)
    ∙ ap (λ a. a.rows) c.self.view_is

pub returns-clause-room : goal.returns-clause-room
returns-clause-room c =
    rw (set-room c.self.inside.slots.items c.self.inside.index.slots c.self.invariant c.args.self.now.rows (ap (λ a. a.rows) c.self.view_is) c.args.t c.open_slot-slot.result c.requires c.open_slot-slot.ensures (record { number = c.index_mut.result.now.number; worker = c.index_mut.result.now.worker; places = c.reserve_one.new.places }))
    (on_ok_weaker c.reserve_one.result (λ room. omega (arith, room)) c.reserve_one.ensures.ok)
