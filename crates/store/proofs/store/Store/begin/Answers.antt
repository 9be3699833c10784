use Rattle.std.proofs.Common.{◌≡◌, ℕ, ◌+◌, ◌≤◌, true, false, [], ◌∷◌, ◌++◌, length, map, vec_len, vec_capacity, Some, refl, sym, ap, ◌∙◌, inl, arith}
use Rattle.object_trait.specs.declared.event.EventKind.TheVariants.{Begin}
use Rattle.serial_order.specs.History.{summary}
use Rattle.serial_order.specs.Replay.{open_count}
use Rattle.serial_order.specs.declared.command.Command.TheVariants as command
use Rattle.serial_order.specs.declared.refusal.Refusal.TheVariants.{TooManyOpen, HistoryFull}
use Rattle.open_transactions.specs.Transactions.{begun_by, count_open}
use Rattle.store_laws.specs.Kept.{Keeping, keeping, objects_of}
use Rattle.store.proofs.Stored.{refused-shown, memory_refused-shown}
use Rattle.store.proofs.Rooms.{succeeded, rows-fit, room-is}
use Rattle.store.proofs.Pasts.{past-more, past-length, past-test}
use Rattle.store.proofs.Commits.{not-counted}
use Rattle.store.proofs.Begins.{begin-many, begin-full, begin-unrefused, begin-whole, begin-shown}
use Rattle.store.proofs.store.Store.begin.Goals as goal

pub returns-then-opened-self-clause-step : goal.returns-then-opened-self-clause-step
returns-then-opened-self-clause-step g c =
    let inside = c.self.inside in
    let H = inside.past.items ++ inside.history.items in
    let k : Keeping = keeping (map g.R.Recovery.meaning inside.objects.items) inside.transactions.rows in
    let counts : c.open_count-opened.result ≡ open_count (summary H) = c.open_count-opened.ensures.exact ∙ sym (c.rows_are_counted.ensures k H c.self.invariant.1.store.kept) in
    inl (refused-shown ℕ k H c.args.w inside.limits inside.forgotten command.Begin TooManyOpen c.args.self.now c.self.view_is
    (begin-many (objects_of k.meanings) inside.limits H c.open_count-opened.result counts c.if-opened-self.true))

pub returns-then-not-has_room-clause-step : goal.returns-then-not-has_room-clause-step
returns-then-not-has_room-clause-step g c =
    let inside = c.self.inside in
    let H = inside.past.items ++ inside.history.items in
    let opened = c.open_count-opened.result in
    let k : Keeping = keeping (map g.R.Recovery.meaning inside.objects.items) inside.transactions.rows in
    let counts : opened ≡ open_count (summary H) = c.open_count-opened.ensures.exact ∙ sym (c.rows_are_counted.ensures k H c.self.invariant.1.store.kept) in
    inl (refused-shown ℕ k H c.args.w inside.limits inside.forgotten command.Begin HistoryFull c.args.self.now c.self.view_is
    (begin-full (objects_of k.meanings) inside.limits H opened counts c.if-opened-self.false (past-test inside.past.items c.deref.result.now inside.history.items inside.forgotten opened 2 inside.limits.events c.has_room.result false c.self.invariant.0 c.has_room.ensures c.deref.ensures.value c.if-not-has_room.true)))

pub returns-then-is_err-clause-step : goal.returns-then-is_err-clause-step
returns-then-is_err-clause-step g c =
    let inside = c.self.inside in
    let H = inside.past.items ++ inside.history.items in
    let opened = c.open_count-opened.result in
    let k : Keeping = keeping (map g.R.Recovery.meaning inside.objects.items) inside.transactions.rows in
    let counts : opened ≡ open_count (summary H) = c.open_count-opened.ensures.exact ∙ sym (c.rows_are_counted.ensures k H c.self.invariant.1.store.kept) in
    memory_refused-shown ℕ k H (inside.past.items ++ c.reserve.new.self.items) c.args.w inside.limits inside.forgotten command.Begin c.args.self.now c.self.view_is
    (begin-unrefused (objects_of k.meanings) inside.limits H opened counts c.if-opened-self.false (past-test inside.past.items c.deref.result.now inside.history.items inside.forgotten opened 2 inside.limits.events c.has_room.result true c.self.invariant.0 c.has_room.ensures c.deref.ensures.value c.if-not-has_room.false)) (ap (λ K. inside.past.items ++ K) c.reserve.ensures.items)

pub returns-then-is_err-2-clause-step : goal.returns-then-is_err-2-clause-step
returns-then-is_err-2-clause-step g c =
    let inside = c.self.inside in
    let H = inside.past.items ++ inside.history.items in
    let opened = c.open_count-opened.result in
    let k : Keeping = keeping (map g.R.Recovery.meaning inside.objects.items) inside.transactions.rows in
    let counts : opened ≡ open_count (summary H) = c.open_count-opened.ensures.exact ∙ sym (c.rows_are_counted.ensures k H c.self.invariant.1.store.kept) in
    memory_refused-shown ℕ k H (inside.past.items ++ c.reserve.new.self.items) c.args.w inside.limits inside.forgotten command.Begin c.args.self.now c.self.view_is
    (begin-unrefused (objects_of k.meanings) inside.limits H opened counts c.if-opened-self.false (past-test inside.past.items c.deref.result.now inside.history.items inside.forgotten opened 2 inside.limits.events c.has_room.result true c.self.invariant.0 c.has_room.ensures c.deref.ensures.value c.if-not-has_room.false)) (ap (λ K. inside.past.items ++ K) c.reserve.ensures.items)

pub begin-t-requires-clause-few : goal.begin-t-requires-clause-few
begin-t-requires-clause-few g c = omega (arith, c.if-opened-self.false, c.self.invariant.1.within.slotted, c.open_count-opened.ensures.exact, ap count_open c.reserve_begin.ensures.rows)

pub begin-t-requires-clause-fits : goal.begin-t-requires-clause-fits
begin-t-requires-clause-fits g c =
    let inside = c.self.inside in
    let H = inside.past.items ++ inside.history.items in
    let opened = c.open_count-opened.result in
    let limited = room-is (length H + opened + 2) inside.limits.events (past-test inside.past.items c.deref.result.now inside.history.items inside.forgotten opened 2 inside.limits.events c.has_room.result true c.self.invariant.0 c.has_room.ensures c.deref.ensures.value c.if-not-has_room.false) in
    let few = rows-fit c.rows_are_few.ensures (map g.R.Recovery.meaning inside.objects.items) inside.transactions.rows c.reserve_begin.new.self.rows H inside.limits.events
    c.self.invariant.1.store.kept c.reserve_begin.ensures.rows (omega (arith, limited)) in
    omega (arith, few)

pub invariant_of-self-2 : goal.invariant_of-self-2
invariant_of-self-2 g c =
    let inside = c.self.inside in
    let H = inside.past.items ++ inside.history.items in
    let opened = c.open_count-opened.result in
    let limited = room-is (length H + opened + 2) inside.limits.events (past-test inside.past.items c.deref.result.now inside.history.items inside.forgotten opened 2 inside.limits.events c.has_room.result true c.self.invariant.0 c.has_room.ensures c.deref.ensures.value c.if-not-has_room.false) in
    let made : vec_len c.reserve.new.self + (opened + 2) ≤ vec_capacity c.reserve.new.self = succeeded c.reserve.result (sym c.is_err.ensures.value ∙ c.if-is_err.false) c.reserve.ensures.ok in
    let long = past-length inside.past.items inside.history.items inside.forgotten c.self.invariant.0 in (
      c.self.invariant.0,
      begin-whole c.begin_moves.ensures (map g.R.Recovery.meaning inside.objects.items) inside.transactions.rows c.begin-t.new.self.rows H (inside.past.items ++ c.push_reserved.new.self.items)
          c.args.w c.begin-t.result c.self.invariant.1.store.kept (c.begin-t.ensures.number ∙ ap length c.reserve_begin.ensures.rows)
          (c.begin-t.ensures.rows ∙ ap (λ r. r ++ Some (begun_by c.args.w) ∷ []) c.reserve_begin.ensures.rows)
          (past-more inside.past.items inside.history.items c.push_reserved.new.self.items (record { worker = c.args.w; kind = Begin c.begin-t.result })
          (c.push_reserved.ensures.items ∙ ap (λ K. K ++ (record { worker = c.args.w; kind = Begin c.begin-t.result }) ∷ []) c.reserve.ensures.items))
          c.stays_kept.ensures c.room_after.ensures c.types_stay.ensures c.rows_are_counted.ensures inside.calls.items opened (inside.forgotten + vec_capacity inside.history) (inside.forgotten + vec_capacity c.push_reserved.new.self) inside.limits c.self.invariant.1 c.open_count-opened.ensures.exact
          (omega arith) (omega (arith, long, made, c.reserve.ensures.len, c.push_reserved.ensures.capacity, inside.history.ok.0)) limited c.if-opened-self.false,
      not-counted H (inside.past.items ++ c.push_reserved.new.self.items) (record { worker = c.args.w; kind = Begin c.begin-t.result }) inside.committed
          (past-more inside.past.items inside.history.items c.push_reserved.new.self.items (record { worker = c.args.w; kind = Begin c.begin-t.result })
          (c.push_reserved.ensures.items ∙ ap (λ K. K ++ (record { worker = c.args.w; kind = Begin c.begin-t.result }) ∷ []) c.reserve.ensures.items))
          c.self.invariant.2 refl,
    )

pub returns-clause-step : goal.returns-clause-step
returns-clause-step g c =
    let inside = c.self.inside in
    let H = inside.past.items ++ inside.history.items in
    let opened = c.open_count-opened.result in
    let ms = map g.R.Recovery.meaning inside.objects.items in
    let k : Keeping = keeping ms inside.transactions.rows in
    let counts : opened ≡ open_count (summary H) = c.open_count-opened.ensures.exact ∙ sym (c.rows_are_counted.ensures k H c.self.invariant.1.store.kept) in
    inl (begin-shown c.begin_moves.ensures ms inside.transactions.rows c.begin-t.new.self.rows H (inside.past.items ++ c.push_reserved.new.self.items)
    c.args.w c.begin-t.result c.self.invariant.1.store.kept (c.begin-t.ensures.number ∙ ap length c.reserve_begin.ensures.rows)
    (c.begin-t.ensures.rows ∙ ap (λ r. r ++ Some (begun_by c.args.w) ∷ []) c.reserve_begin.ensures.rows)
    (past-more inside.past.items inside.history.items c.push_reserved.new.self.items (record { worker = c.args.w; kind = Begin c.begin-t.result })
    (c.push_reserved.ensures.items ∙ ap (λ K. K ++ (record { worker = c.args.w; kind = Begin c.begin-t.result }) ∷ []) c.reserve.ensures.items))
    c.types_stay.ensures inside.limits inside.forgotten c.args.self.now c.self.view_is
    (begin-unrefused (objects_of ms) inside.limits H opened counts c.if-opened-self.false (past-test inside.past.items c.deref.result.now inside.history.items inside.forgotten opened 2 inside.limits.events c.has_room.result true c.self.invariant.0 c.has_room.ensures c.deref.ensures.value c.if-not-has_room.false)))
