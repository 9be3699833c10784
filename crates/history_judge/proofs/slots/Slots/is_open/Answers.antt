use Rattle.std.proofs.Common.{arith}
use Rattle.std.proofs.lemmas.List.{get_or_read}
use Rattle.open_transactions.proofs.InSlots.{open-tested}
use Rattle.history_judge.specs.Slots.{slot_number, slot_row}
use Rattle.history_judge.proofs.slots.Slots.is_open.Goals as goal

pub returns-then-t-len : goal.returns-then-t-len
returns-then-t-len c =
    open-tested slot_number slot_row c.self.inside.slots.items c.self.inside.slot_of.items c.self.invariant c.args.self.now c.self.view_is c.args.t c.index.result.now
    (get_or_read c.self.inside.slot_of.items c.args.t c.index.result.now (omega (arith, c.if-t-len.true, c.len.ensures, c.self.inside.slot_of.ok.0)) c.index.ensures 4294967295)
