use Rattle.std.proofs.Common.{◌≡◌, true, false, map, inl, inr, refl}
use Rattle.serial_order.specs.Replay.{is_history_full}
use Rattle.store.proofs.Answered.{room-told}
use Rattle.store.proofs.store.Store.make_room.Goals as goal

pub returns-then-not-has_room-clause-made : goal.returns-then-not-has_room-clause-made
returns-then-not-has_room-clause-made g c =
    let inside = c.self.inside in
    let full : is_history_full c.args.self.now.limits c.args.self.now.history c.args.further ≡ true =
    room-told c.rows_are_counted.ensures (map g.R.Recovery.meaning inside.objects.items) inside.transactions.rows inside.past.items inside.history.items c.deref.result.now inside.forgotten
    c.open_count-opened.result c.args.further inside.limits c.has_room.result false c.args.self.now c.self.view_is c.self.invariant.1.store.kept c.open_count-opened.ensures.exact c.self.invariant.0 c.deref.ensures.value c.has_room.ensures
    c.if-not-has_room.true
    in
    inl (full, refl)

pub returns-then-is_err-clause-made : goal.returns-then-is_err-clause-made
returns-then-is_err-clause-made g c =
    let inside = c.self.inside in
    let room : is_history_full c.args.self.now.limits c.args.self.now.history c.args.further ≡ false =
    room-told c.rows_are_counted.ensures (map g.R.Recovery.meaning inside.objects.items) inside.transactions.rows inside.past.items inside.history.items c.deref.result.now inside.forgotten
    c.open_count-opened.result c.args.further inside.limits c.has_room.result true c.args.self.now c.self.view_is c.self.invariant.1.store.kept c.open_count-opened.ensures.exact c.self.invariant.0 c.deref.ensures.value c.has_room.ensures
    c.if-not-has_room.false
    in
    inr (room, refl)

pub returns-clause-made : goal.returns-clause-made
returns-clause-made g c =
    let inside = c.self.inside in
    room-told c.rows_are_counted.ensures (map g.R.Recovery.meaning inside.objects.items) inside.transactions.rows inside.past.items inside.history.items c.deref.result.now inside.forgotten
    c.open_count-opened.result c.args.further inside.limits c.has_room.result true c.args.self.now c.self.view_is c.self.invariant.1.store.kept c.open_count-opened.ensures.exact c.self.invariant.0 c.deref.ensures.value c.has_room.ensures
    c.if-not-has_room.false
