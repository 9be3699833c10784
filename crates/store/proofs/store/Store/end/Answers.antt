use Rattle.std.proofs.Common.{◌≡◌, ℕ, ◌+◌, ◌≤◌, subst, List, [], ◌∷◌, ◌++◌, false, length, map, vec_capacity, sym, ap, ◌∙◌, arith}
use Rattle.std.proofs.lemmas.List.{length-map}
use Rattle.object_trait.specs.declared.event.Event.{Event}
use Rattle.object_trait.specs.declared.event.EventKind.{EventKind}
use Rattle.serial_order.specs.History.{summary, is_open}
use Rattle.serial_order.specs.declared.refusal.Refusal.TheVariants.{NotOpen}
use Rattle.open_transactions.specs.Transactions.{count_open}
use Rattle.store_laws.specs.Events.{end_event}
use Rattle.store_laws.specs.Kept.{Keeping, keeping, objects_of}
use Rattle.store.specs.Ends.{end_command}
use Rattle.store.proofs.Stored.{refused-shown}
use Rattle.store.proofs.Opens.{open-alike, places-inside, places-few}
use Rattle.store.proofs.Pasts.{past-more, past-length}
use Rattle.store.proofs.Commits.{counted-on, commits-within}
use Rattle.store.proofs.Endings.{end-refusal, end-room, end-whole, end-shown}
use Rattle.store.proofs.store.Store.end.Goals as goal

-- the event is that of the end
event-last : (K after : List Event) (w : ℕ) (kind happened : EventKind) → after ≡ K ++ (record { worker = w; kind = kind }) ∷ [] → kind ≡ happened
    → after ≡ K ++ (record { worker = w; kind = happened }) ∷ []
event-last K after w kind happened appended same = appended ∙ ap (λ k. K ++ (record { worker = w; kind = k }) ∷ []) same

pub returns-then-not-is_open : goal.returns-then-not-is_open
returns-then-not-is_open g c =
    let inside = c.self.inside in
    let H = inside.past.items ++ inside.history.items in
    let ms = map g.R.Recovery.meaning inside.objects.items in
    let k : Keeping = keeping ms inside.transactions.rows in
    let closed : is_open (summary H) c.args.t ≡ false =
    open-alike c.rows_say_who_is_open.ensures ms inside.transactions.rows H c.args.t c.self.invariant.1.store.kept ∙ sym c.is_open.ensures ∙ c.if-not-is_open.true in
    refused-shown (Unit {0}) k H c.args.w inside.limits inside.forgotten (end_command c.args.how c.args.t) NotOpen c.args.self.now c.self.view_is
    (end-refusal c.args.how (objects_of ms) inside.limits H c.args.t false closed)

pub end_at-requires-clause-inside : goal.end_at-requires-clause-inside
end_at-requires-clause-inside g c =
    λ κs outlives.
    let inside = c.self.inside in
    places-inside (map g.R.Recovery.meaning inside.objects.items) inside.transactions.rows (inside.past.items ++ inside.history.items) c.args.t c.places-places.result.now c.self.invariant.1.store.kept
    (sym c.is_open.ensures ∙ c.if-not-is_open.false) c.places-places.ensures c.places_are_inside.ensures (length inside.objects.items) (length-map inside.objects.items g.R.Recovery.meaning)

pub end_at-requires-clause-few : goal.end_at-requires-clause-few
end_at-requires-clause-few g c =
    λ κs outlives.
    let inside = c.self.inside in
    let few = places-few (map g.R.Recovery.meaning inside.objects.items) inside.transactions.rows (inside.past.items ++ inside.history.items) c.args.t c.places-places.result.now
    c.self.invariant.1.store.kept (sym c.is_open.ensures ∙ c.if-not-is_open.false) c.places-places.ensures c.places_are_few.ensures in
    let limited = c.self.invariant.1.store.limited in
    omega (arith, few, limited)

pub end_at-requires-clause-room : goal.end_at-requires-clause-room
end_at-requires-clause-room g c =
    λ κs outlives.
    subst (λ n. n ≤ c.self.inside.counts) (length-map c.self.inside.objects.items g.R.Recovery.meaning) c.self.invariant.1.within.placed

pub push_reserved-requires : goal.push_reserved-requires
push_reserved-requires g c =
    let inside = c.self.inside in
    let room = end-room c.rows_are_counted.ensures (map g.R.Recovery.meaning inside.objects.items) inside.transactions.rows (inside.past.items ++ inside.history.items) (inside.forgotten + vec_capacity inside.history) inside.limits (count_open c.end.new.self.rows)
    c.self.invariant.1.store c.end.ensures.count in
    let long = past-length inside.past.items inside.history.items inside.forgotten c.self.invariant.0 in
    omega (arith, long, room.0, inside.history.ok.0)

pub overflow_add-self : goal.overflow_add-self
overflow_add-self g c =
    let inside = c.self.inside in
    let H = inside.past.items ++ inside.history.items in
    let room = end-room c.rows_are_counted.ensures (map g.R.Recovery.meaning inside.objects.items) inside.transactions.rows H (inside.forgotten + vec_capacity inside.history) inside.limits (count_open c.end.new.self.rows)
    c.self.invariant.1.store c.end.ensures.count in
    omega (arith, room.1, c.self.invariant.2, commits-within H, c.commits_of.ensures.within)

pub invariant_of-self : goal.invariant_of-self
invariant_of-self g c =
    let inside = c.self.inside in
    let H = inside.past.items ++ inside.history.items in
    let ms = map g.R.Recovery.meaning inside.objects.items in
    let event : Event = record { worker = c.args.w; kind = end_event c.args.how c.args.t } in (
      c.self.invariant.0,
      rw c.end_at.ensures.room
          (end-whole c.args.how c.end_moves.ensures c.rows_say_who_is_open.ensures ms (map g.R.Recovery.meaning c.end_at.new.objects.items)
          inside.transactions.rows c.end.new.self.rows H (inside.past.items ++ c.push_reserved.new.self.items) c.args.w c.args.t c.places-places.result.now c.self.invariant.1.store.kept
          (sym c.is_open.ensures ∙ c.if-not-is_open.false) c.places-places.ensures c.end_at.ensures.changes c.end.ensures.rows
          (past-more inside.past.items inside.history.items c.push_reserved.new.self.items event (event-last inside.history.items c.push_reserved.new.self.items c.args.w _ _ c.push_reserved.ensures.items c.kind_of_end-kind.ensures))
          c.stays_kept.ensures c.room_after.ensures c.types_stay.ensures c.rows_are_counted.ensures
          inside.calls.items (inside.forgotten + vec_capacity inside.history) (inside.forgotten + vec_capacity c.push_reserved.new.self) inside.limits c.self.invariant.1
          (omega (arith, c.push_reserved.ensures.capacity)) (omega arith) c.end.ensures.count),
      ap (λ k. inside.committed + k) (c.commits_of.ensures.exact c.args.t)
          ∙ counted-on H (inside.past.items ++ c.push_reserved.new.self.items) event inside.committed
          (past-more inside.past.items inside.history.items c.push_reserved.new.self.items event (event-last inside.history.items c.push_reserved.new.self.items c.args.w _ _ c.push_reserved.ensures.items c.kind_of_end-kind.ensures))
          c.self.invariant.2,
    )

pub returns : goal.returns
returns g c =
    let inside = c.self.inside in
    let H = inside.past.items ++ inside.history.items in
    let ms = map g.R.Recovery.meaning inside.objects.items in
    let event : Event = record { worker = c.args.w; kind = end_event c.args.how c.args.t } in
    end-shown c.args.how c.end_moves.ensures c.rows_say_who_is_open.ensures ms (map g.R.Recovery.meaning c.end_at.new.objects.items)
    inside.transactions.rows c.end.new.self.rows H (inside.past.items ++ c.push_reserved.new.self.items) c.args.w c.args.t c.places-places.result.now c.self.invariant.1.store.kept
    (sym c.is_open.ensures ∙ c.if-not-is_open.false) c.places-places.ensures c.end_at.ensures.changes c.end.ensures.rows
    (past-more inside.past.items inside.history.items c.push_reserved.new.self.items event (event-last inside.history.items c.push_reserved.new.self.items c.args.w _ _ c.push_reserved.ensures.items c.kind_of_end-kind.ensures))
    c.types_stay.ensures (Unit {0}) tt inside.limits inside.forgotten c.args.self.now c.self.view_is
