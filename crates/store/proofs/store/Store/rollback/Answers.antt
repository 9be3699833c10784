use Rattle.std.proofs.Common.{◌+◌, ◌-◌, ◌≤◌, true, false, [], ◌∷◌, ◌++◌, length, map, vec_len, vec_capacity, sym, ap, subst, refl, ◌∙◌, inl, inr, arith}
use Rattle.std.proofs.lemmas.List.{length-map}
use Rattle.object_trait.specs.declared.event.EventKind.TheVariants.{Rollback}
use Rattle.serial_order.specs.declared.command.Command.TheVariants as command
use Rattle.serial_order.specs.declared.refusal.Refusal.TheVariants.{NotOpen, BadRollback, HistoryFull}
use Rattle.store_laws.specs.Kept.{Keeping, keeping}
use Rattle.store.proofs.Stored.{refused-shown, memory_refused-shown}
use Rattle.store.proofs.Rooms.{succeeded, room-is}
use Rattle.store.proofs.Commits.{not-counted}
use Rattle.store.proofs.Pasts.{past-more, past-length, past-test}
use Rattle.store.proofs.Opens.{places-few, struck-inside, struck-last}
use Rattle.store.proofs.Rollbacks.{rollback-closed, rollback-bad, rollback-full, rollback-unrefused, rollback-may, rollback-whole, rollback-shown, places-from}
use Rattle.store.proofs.store.Store.rollback.Goals as goal

pub returns-then-not-is_open : goal.returns-then-not-is_open
returns-then-not-is_open g c =
    let inside = c.self.inside in
    let H = inside.past.items ++ inside.history.items in
    let ms = map g.R.Recovery.meaning inside.objects.items in
    let k : Keeping = keeping ms inside.transactions.rows in
    inl (refused-shown (Unit {0}) k H c.args.w inside.limits inside.forgotten (command.Rollback c.args.t c.args.n) NotOpen c.args.self.now c.self.view_is
    (rollback-closed c.rows_say_who_is_open.ensures ms inside.transactions.rows H c.args.t c.args.n inside.limits c.self.invariant.1.store.kept
    (sym c.is_open.ensures ∙ c.if-not-is_open.true)))

pub overflow_cast-living : goal.overflow_cast-living
overflow_cast-living g c =
    let inside = c.self.inside in
    let going = sym c.is_open.ensures ∙ c.if-not-is_open.false in
    let few = places-few (map g.R.Recovery.meaning inside.objects.items) inside.transactions.rows (inside.past.items ++ inside.history.items) c.args.t c.places-places.result.now
    c.self.invariant.1.store.kept going c.places-places.ensures c.places_are_few.ensures in
    let limited = c.self.invariant.1.store.limited in
    omega (arith, few, limited)

pub returns-then-n-eq0 : goal.returns-then-n-eq0
returns-then-n-eq0 g c =
    let inside = c.self.inside in
    let H = inside.past.items ++ inside.history.items in
    let ms = map g.R.Recovery.meaning inside.objects.items in
    let going = sym c.is_open.ensures ∙ c.if-not-is_open.false in
    let k : Keeping = keeping ms inside.transactions.rows in
    inl (refused-shown (Unit {0}) k H c.args.w inside.limits inside.forgotten (command.Rollback c.args.t c.args.n) BadRollback c.args.self.now c.self.view_is
    (rollback-bad c.rows_say_who_is_open.ensures c.places_are_counted.ensures ms inside.transactions.rows H c.args.t c.args.n inside.limits c.places-places.result.now
    c.self.invariant.1.store.kept going c.places-places.ensures (elim c.then-n-eq0.either [ inl none ↦ inl none | inr more ↦ inr more.1 ])))

pub returns-then-not-has_room : goal.returns-then-not-has_room
returns-then-not-has_room g c =
    let inside = c.self.inside in
    let H = inside.past.items ++ inside.history.items in
    let opened = c.open_count-opened.result in
    let ms = map g.R.Recovery.meaning inside.objects.items in
    let going = sym c.is_open.ensures ∙ c.if-not-is_open.false in
    let k : Keeping = keeping ms inside.transactions.rows in
    inl (refused-shown (Unit {0}) k H c.args.w inside.limits inside.forgotten (command.Rollback c.args.t c.args.n) HistoryFull c.args.self.now c.self.view_is
    (rollback-full c.rows_say_who_is_open.ensures c.places_are_counted.ensures ms inside.transactions.rows H c.args.t c.args.n inside.limits c.places-places.result.now
    c.self.invariant.1.store.kept going c.places-places.ensures c.rows_are_counted.ensures opened c.open_count-opened.ensures.exact (omega arith) (omega arith) (past-test inside.past.items c.deref.result.now inside.history.items inside.forgotten opened 1 inside.limits.events c.has_room.result false c.self.invariant.0 c.has_room.ensures c.deref.ensures.value c.if-not-has_room.true)))

pub returns-then-is_err : goal.returns-then-is_err
returns-then-is_err g c =
    let inside = c.self.inside in
    let H = inside.past.items ++ inside.history.items in
    let opened = c.open_count-opened.result in
    let ms = map g.R.Recovery.meaning inside.objects.items in
    let going = sym c.is_open.ensures ∙ c.if-not-is_open.false in
    let k : Keeping = keeping ms inside.transactions.rows in
    memory_refused-shown (Unit {0}) k H (inside.past.items ++ c.reserve.new.self.items) c.args.w inside.limits inside.forgotten (command.Rollback c.args.t c.args.n) c.args.self.now c.self.view_is
    (rollback-unrefused c.rows_say_who_is_open.ensures c.places_are_counted.ensures ms inside.transactions.rows H c.args.t c.args.n inside.limits c.places-places.result.now
    c.self.invariant.1.store.kept going c.places-places.ensures c.rows_are_counted.ensures opened c.open_count-opened.ensures.exact (omega arith) (omega arith) (past-test inside.past.items c.deref.result.now inside.history.items inside.forgotten opened 1 inside.limits.events c.has_room.result true c.self.invariant.0 c.has_room.ensures c.deref.ensures.value c.if-not-has_room.false))
    (ap (λ K. inside.past.items ++ K) c.reserve.ensures.items)

pub strike_at-requires-clause-inside : goal.strike_at-requires-clause-inside
strike_at-requires-clause-inside g c =
    λ κs outlives.
    let inside = c.self.inside in
    let places = c.places-places.result.now in
    let going = sym c.is_open.ensures ∙ c.if-not-is_open.false in
    struck-inside (map g.R.Recovery.meaning inside.objects.items) inside.transactions.rows (inside.past.items ++ inside.history.items) c.args.t places c.self.invariant.1.store.kept going
    c.places-places.ensures c.places_are_inside.ensures c.args.n (length inside.objects.items) _ (length-map inside.objects.items g.R.Recovery.meaning) (places-from c.args.n places)

pub strike_at-requires-clause-room : goal.strike_at-requires-clause-room
strike_at-requires-clause-room g c =
    λ κs outlives.
    subst (λ n. n ≤ c.self.inside.counts) (length-map c.self.inside.objects.items g.R.Recovery.meaning) c.self.invariant.1.within.placed

pub strike_at-requires-clause-last : goal.strike_at-requires-clause-last
strike_at-requires-clause-last g c =
    λ κs outlives.
    let inside = c.self.inside in
    let places = c.places-places.result.now in
    let going = sym c.is_open.ensures ∙ c.if-not-is_open.false in
    struck-last (map g.R.Recovery.meaning inside.objects.items) inside.transactions.rows (inside.past.items ++ inside.history.items) c.args.t places c.self.invariant.1.store.kept going
    c.places-places.ensures c.has_what_is_struck.ensures c.args.n _ (places-from c.args.n places)

pub invariant_of-self-2 : goal.invariant_of-self-2
invariant_of-self-2 g c =
    let inside = c.self.inside in
    let H = inside.past.items ++ inside.history.items in
    let opened = c.open_count-opened.result in
    let ms = map g.R.Recovery.meaning inside.objects.items in
    let places = c.places-places.result.now in
    let going = sym c.is_open.ensures ∙ c.if-not-is_open.false in
    let limited = room-is (length H + opened + 1) inside.limits.events (past-test inside.past.items c.deref.result.now inside.history.items inside.forgotten opened 1 inside.limits.events c.has_room.result true c.self.invariant.0 c.has_room.ensures c.deref.ensures.value c.if-not-has_room.false) in
    let made : vec_len c.reserve.new.self + (opened + 1) ≤ vec_capacity c.reserve.new.self = succeeded c.reserve.result (sym c.is_err.ensures.value ∙ c.if-is_err.false) c.reserve.ensures.ok in
    let long = past-length inside.past.items inside.history.items inside.forgotten c.self.invariant.0 in (
      c.self.invariant.0,
      rw c.strike_at.ensures.room
          (rollback-whole c.rollback_moves.ensures ms (map g.R.Recovery.meaning c.strike_at.new.objects.items)
          inside.transactions.rows c.keep_places.new.self.rows H (inside.past.items ++ c.push_reserved.new.self.items) c.args.w c.args.t c.args.n (length places - c.args.n) places _ c.self.invariant.1.store.kept
          going c.places-places.ensures (places-from c.args.n places) c.strike_at.ensures.changes refl c.keep_places.ensures
          (past-more inside.past.items inside.history.items c.push_reserved.new.self.items (record { worker = c.args.w; kind = Rollback c.args.t c.args.n })
          (c.push_reserved.ensures.items ∙ ap (λ K. K ++ (record { worker = c.args.w; kind = Rollback c.args.t c.args.n }) ∷ []) c.reserve.ensures.items))
          c.stays_kept.ensures c.room_after.ensures c.types_stay.ensures c.rows_are_counted.ensures
          (rollback-may c.rows_say_who_is_open.ensures c.places_are_counted.ensures ms inside.transactions.rows H c.args.t c.args.n inside.limits places
          c.self.invariant.1.store.kept going c.places-places.ensures c.args.w (omega arith) (omega arith))
          inside.calls.items opened (inside.forgotten + vec_capacity inside.history) (inside.forgotten + vec_capacity c.push_reserved.new.self) inside.limits c.self.invariant.1 c.open_count-opened.ensures.exact
          (omega arith) (omega (arith, long, made, c.reserve.ensures.len, c.push_reserved.ensures.capacity, inside.history.ok.0)) limited),
      not-counted H (inside.past.items ++ c.push_reserved.new.self.items) (record { worker = c.args.w; kind = Rollback c.args.t c.args.n }) inside.committed
          (past-more inside.past.items inside.history.items c.push_reserved.new.self.items (record { worker = c.args.w; kind = Rollback c.args.t c.args.n })
          (c.push_reserved.ensures.items ∙ ap (λ K. K ++ (record { worker = c.args.w; kind = Rollback c.args.t c.args.n }) ∷ []) c.reserve.ensures.items))
          c.self.invariant.2 refl,
    )

pub returns : goal.returns
returns g c =
    let inside = c.self.inside in
    let H = inside.past.items ++ inside.history.items in
    let opened = c.open_count-opened.result in
    let ms = map g.R.Recovery.meaning inside.objects.items in
    let places = c.places-places.result.now in
    let going = sym c.is_open.ensures ∙ c.if-not-is_open.false in
    inl (rollback-shown c.rollback_moves.ensures ms (map g.R.Recovery.meaning c.strike_at.new.objects.items)
    inside.transactions.rows c.keep_places.new.self.rows H (inside.past.items ++ c.push_reserved.new.self.items) c.args.w c.args.t c.args.n (length places - c.args.n) places _ c.self.invariant.1.store.kept
    going c.places-places.ensures (places-from c.args.n places) c.strike_at.ensures.changes refl c.keep_places.ensures
    (past-more inside.past.items inside.history.items c.push_reserved.new.self.items (record { worker = c.args.w; kind = Rollback c.args.t c.args.n })
    (c.push_reserved.ensures.items ∙ ap (λ K. K ++ (record { worker = c.args.w; kind = Rollback c.args.t c.args.n }) ∷ []) c.reserve.ensures.items))
    c.types_stay.ensures (Unit {0}) tt inside.limits inside.forgotten c.args.self.now c.self.view_is
    (rollback-unrefused c.rows_say_who_is_open.ensures c.places_are_counted.ensures ms inside.transactions.rows H c.args.t c.args.n inside.limits places
    c.self.invariant.1.store.kept going c.places-places.ensures c.rows_are_counted.ensures opened c.open_count-opened.ensures.exact (omega arith) (omega arith) (past-test inside.past.items c.deref.result.now inside.history.items inside.forgotten opened 1 inside.limits.events c.has_room.result true c.self.invariant.0 c.has_room.ensures c.deref.ensures.value c.if-not-has_room.false)))
