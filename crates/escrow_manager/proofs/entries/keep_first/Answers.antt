use Rattle.std.proofs.Common.{◌≡◌, ◌<◌, false, length, rules, arith}
use Rattle.type_table.proofs.Elements.{each_there}
use Rattle.escrow_manager.proofs.entries.keep_first.Goals as goal

pub is_of-mine-requires : goal.is_of-mine-requires
is_of-mine-requires c =
    let h = c.loop-i.invariant in
    let long = h.long in
    let within : c.loop-i.i < length c.loop-i.log.items = search rules in
    each_there (λ e. e.done ≡ false) c.args.log.now.items c.loop-i.log.items c.loop-i.i c.index.result.now c.requires h.rest (omega (arith, within, long)) c.index.ensures
