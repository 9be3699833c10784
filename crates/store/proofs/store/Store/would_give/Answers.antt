use Rattle.std.proofs.Common.{◌≡◌, ◌++◌, true, false, map, refl, subst}
use Rattle.serial_order.specs.Replay.{is_history_full}
use Rattle.store_laws.specs.Stored.{Stored}
use Rattle.store.proofs.Answered.{room-tested}
use Rattle.store.proofs.store.Store.would_give.Goals as goal

pub returns-then-not-has_room : goal.returns-then-not-has_room
returns-then-not-has_room g c =
    let inside = c.self.inside in
    let room : is_history_full inside.limits (inside.past.items ++ inside.history.items) 1 ≡ true =
    room-tested c.rows_are_counted.ensures (map g.R.Recovery.meaning inside.objects.items) inside.transactions.rows inside.past.items inside.history.items c.deref.result.now
    inside.forgotten c.open_count-opened.result inside.limits c.has_room.result false
    c.self.invariant.1.store.kept c.open_count-opened.ensures.exact c.self.invariant.0 c.deref.ensures.value c.has_room.ensures c.if-not-has_room.true in
    (subst (λ (z : Stored). is_history_full z.limits z.history 1 ≡ true) c.self.view_is room, refl)

pub returns : goal.returns
returns g c =
    let inside = c.self.inside in
    let room : is_history_full inside.limits (inside.past.items ++ inside.history.items) 1 ≡ false =
    room-tested c.rows_are_counted.ensures (map g.R.Recovery.meaning inside.objects.items) inside.transactions.rows inside.past.items inside.history.items c.deref.result.now
    inside.forgotten c.open_count-opened.result inside.limits c.has_room.result true
    c.self.invariant.1.store.kept c.open_count-opened.ensures.exact c.self.invariant.0 c.deref.ensures.value c.has_room.ensures c.if-not-has_room.false in
    (subst (λ (z : Stored). is_history_full z.limits z.history 1 ≡ false) c.self.view_is room, c.chosen.ensures)
