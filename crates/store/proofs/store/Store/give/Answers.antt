use Rattle.std.proofs.Common.{◌≡◌, ◌+◌, ◌≤◌, true, false, [], ◌∷◌, ◌++◌, length, map, vec_len, vec_capacity, sym, ap, ◌∙◌, arith}
use Rattle.std.proofs.lemmas.List.{length-map}
use Rattle.object_trait.specs.Meaning.{Meaning}
use Rattle.serial_order.specs.Replay.{is_history_full}
use Rattle.store_laws.specs.Words.{as_event}
use Rattle.store.specs.Executed.{ExecutesAnswer}
use Rattle.store.proofs.Rooms.{succeeded}
use Rattle.store.proofs.Pasts.{past-more, past-length}
use Rattle.store.proofs.Commits.{not-counted, answers-commit-none}
use Rattle.store.proofs.Executed.{failed}
use Rattle.store.proofs.Answered.{IsGiven, called-inside, given-at, given, still-open, room-tested, answer-follows, answer-last, reply-may, answer-whole, answer-comes, full-comes, memory_refused-comes}
use Rattle.store.proofs.store.Store.give.Given.{Over}
use Rattle.store.proofs.store.Store.give.Goals as goal

pub returns-then-not-has_room : goal.returns-then-not-has_room
returns-then-not-has_room g c =
    let inside = c.self.inside in
    let H = inside.past.items ++ inside.history.items in
    let ms = map g.R.Recovery.meaning inside.objects.items in
    let room : is_history_full inside.limits H 1 ≡ true =
    room-tested c.rows_are_counted.ensures ms inside.transactions.rows inside.past.items inside.history.items c.deref.result.now inside.forgotten c.open_count-opened.result inside.limits c.has_room.result false
    c.self.invariant.1.store.kept c.open_count-opened.ensures.exact c.self.invariant.0 c.deref.ensures.value c.has_room.ensures c.if-not-has_room.true in
    full-comes ms inside.transactions.rows H inside.limits inside.forgotten c.args.self.now c.args.w c.args.t c.args.x c.args.call.now.first c.self.view_is room

pub do_answer-done-requires-clause-inside : goal.do_answer-done-requires-clause-inside
do_answer-done-requires-clause-inside g c κs within =
    let inside = c.self.inside in
    called-inside (map g.R.Recovery.meaning inside.objects.items) inside.transactions.rows (inside.past.items ++ inside.history.items) inside.limits inside.forgotten c.args.self.now c.args.x c.args.call.now
    c.self.view_is c.requires.call (length inside.objects.items) (length-map inside.objects.items g.R.Recovery.meaning)

pub do_answer-done-requires-clause-still_open : goal.do_answer-done-requires-clause-still_open
do_answer-done-requires-clause-still_open g c κs within =
    let inside = c.self.inside in
    still-open c.rows_say_who_is_open.ensures (map g.R.Recovery.meaning inside.objects.items) inside.transactions.rows (inside.past.items ++ inside.history.items) inside.limits inside.forgotten c.args.self.now c.args.t
    c.self.view_is c.self.invariant.1.store.kept c.requires.still_open

pub do_answer-done-requires-clause-may : goal.do_answer-done-requires-clause-may
do_answer-done-requires-clause-may g c κs within = λ k replies m there.
    let inside = c.self.inside in
    let room : is_history_full inside.limits (inside.past.items ++ inside.history.items) 1 ≡ false =
    room-tested c.rows_are_counted.ensures (map g.R.Recovery.meaning inside.objects.items) inside.transactions.rows inside.past.items inside.history.items c.deref.result.now
    inside.forgotten c.open_count-opened.result inside.limits c.has_room.result true
    c.self.invariant.1.store.kept c.open_count-opened.ensures.exact c.self.invariant.0 c.deref.ensures.value c.has_room.ensures c.if-not-has_room.false in
    let its =
    given-at (map g.R.Recovery.meaning inside.objects.items) inside.transactions.rows (inside.past.items ++ inside.history.items) inside.limits inside.forgotten c.args.self.now c.args.x c.args.call.now c.self.view_is c.requires.call
    c.args.t c.args.answer.now m c.self.invariant.1.store.kept c.requires.still_open there c.requires.chosen in
    reply-may its c.answers_are_known.ensures.least c.answers_are_known.ensures.follows c.answers_are_known.ensures.applies c.answers_are_known.ensures.counted
    k inside.limits replies room (omega arith)

pub returns-then-is_err-2 : goal.returns-then-is_err-2
returns-then-is_err-2 g c =
    let inside = c.self.inside in
    let H = inside.past.items ++ inside.history.items in
    let ms = map g.R.Recovery.meaning inside.objects.items in
    let room : is_history_full inside.limits H 1 ≡ false =
    room-tested c.rows_are_counted.ensures ms inside.transactions.rows inside.past.items inside.history.items c.deref.result.now inside.forgotten c.open_count-opened.result inside.limits c.has_room.result true
    c.self.invariant.1.store.kept c.open_count-opened.ensures.exact c.self.invariant.0 c.deref.ensures.value c.has_room.ensures c.if-not-has_room.false in
    memory_refused-comes ms inside.transactions.rows H inside.limits inside.forgotten c.args.self.now c.args.w c.args.t c.args.x c.args.call.now.first c.self.view_is
    (map g.R.Recovery.meaning c.do_answer-done.new.objects.items) c.do_answer-done.new.transactions.rows (inside.past.items ++ c.reserve.new.self.items)
    (failed c.do_answer-done.result (sym c.is_err-2.ensures.value ∙ c.if-is_err-2.true) c.do_answer-done.ensures.objects)
    (ap (λ K. inside.past.items ++ K) c.reserve.ensures.items) room

-- what the answer says is done
done : (g : Over) (c : goal.After-push_reserved g)
    → ExecutesAnswer c.args.answer.now c.args.t c.args.x (map g.R.Recovery.meaning c.self.inside.objects.items) (map g.R.Recovery.meaning c.do_answer-done.new.objects.items)
    c.self.inside.transactions.rows c.do_answer-done.new.transactions.rows
done g c = succeeded c.do_answer-done.result (sym c.is_err-2.ensures.value ∙ c.if-is_err-2.false) c.do_answer-done.ensures.done

-- the event of the answer is the last
appended : (g : Over) (c : goal.After-push_reserved g)
    → c.self.inside.past.items ++ c.push_reserved.new.self.items
    ≡ (c.self.inside.past.items ++ c.self.inside.history.items) ++ (record { worker = c.args.w; kind = as_event c.args.t c.args.x c.args.call.now.first c.args.answer.now }) ∷ []
appended g c =
    past-more c.self.inside.past.items c.self.inside.history.items c.push_reserved.new.self.items
    (record { worker = c.args.w; kind = as_event c.args.t c.args.x c.args.call.now.first c.args.answer.now })
    (answer-last c.self.inside.history.items c.reserve.new.self.items c.push_reserved.new.self.items c.args.w c.args.t c.args.x c.number.result c.args.call.now.first c.args.answer.now
    c.kind_of-kind.result c.push_reserved.ensures.items c.reserve.ensures.items c.kind_of-kind.ensures c.number.ensures.exact)

-- at the object that is there
called : (g : Over) (c : goal.After-push_reserved g)
    → (m : Meaning) × IsGiven (map g.R.Recovery.meaning c.self.inside.objects.items) c.self.inside.transactions.rows
    (c.self.inside.past.items ++ c.self.inside.history.items) c.args.t c.args.x c.args.call.now m c.args.answer.now
called g c =
    let inside = c.self.inside in
    given (map g.R.Recovery.meaning inside.objects.items) inside.transactions.rows (inside.past.items ++ inside.history.items) inside.limits inside.forgotten c.args.self.now c.args.x c.args.call.now c.self.view_is c.requires.call
    c.args.t c.args.answer.now c.self.invariant.1.store.kept c.requires.still_open c.requires.chosen

-- there is room
roomy : (g : Over) (c : goal.After-push_reserved g) → is_history_full c.self.inside.limits (c.self.inside.past.items ++ c.self.inside.history.items) 1 ≡ false
roomy g c =
    let inside = c.self.inside in
    room-tested c.rows_are_counted.ensures (map g.R.Recovery.meaning inside.objects.items) inside.transactions.rows inside.past.items inside.history.items c.deref.result.now inside.forgotten
    c.open_count-opened.result inside.limits c.has_room.result true c.self.invariant.1.store.kept c.open_count-opened.ensures.exact c.self.invariant.0 c.deref.ensures.value c.has_room.ensures c.if-not-has_room.false

pub invariant_of-self-2 : goal.invariant_of-self-2
invariant_of-self-2 g c =
    let inside = c.self.inside in
    let H = inside.past.items ++ inside.history.items in
    let ms = map g.R.Recovery.meaning inside.objects.items in
    let made : vec_len c.reserve.new.self + (c.open_count-opened.result + 1) ≤ vec_capacity c.reserve.new.self =
    succeeded c.reserve.result (sym c.is_err.ensures.value ∙ c.if-is_err.false) c.reserve.ensures.ok in
    let long = past-length inside.past.items inside.history.items inside.forgotten c.self.invariant.0 in (
      c.self.invariant.0,
      answer-whole c.quiet_moves.ensures c.op_moves.ensures c.types_stay.ensures ms (map g.R.Recovery.meaning c.do_answer-done.new.objects.items)
          inside.transactions.rows c.do_answer-done.new.transactions.rows H (inside.past.items ++ c.push_reserved.new.self.items)
          c.args.w c.args.t c.args.x c.args.call.now.first c.args.answer.now c.self.invariant.1.store.kept
          (still-open c.rows_say_who_is_open.ensures ms inside.transactions.rows H inside.limits inside.forgotten c.args.self.now c.args.t
          c.self.view_is c.self.invariant.1.store.kept c.requires.still_open) (done g c) (appended g c)
          c.stays_kept.ensures c.room_after.ensures c.rows_are_counted.ensures inside.calls.items (inside.forgotten + vec_capacity inside.history) (inside.forgotten + vec_capacity c.push_reserved.new.self) inside.limits
          c.open_count-opened.result c.self.invariant.1 (answer-follows (called g c).1 c.answers_are_known.ensures.least c.answers_are_known.ensures.follows c.args.w)
          c.open_count-opened.ensures.exact (omega arith)
          (omega (arith, long, made, c.reserve.ensures.len, c.push_reserved.ensures.capacity, inside.history.ok.0)) (roomy g c),
      not-counted H (inside.past.items ++ c.push_reserved.new.self.items) (record { worker = c.args.w; kind = as_event c.args.t c.args.x c.args.call.now.first c.args.answer.now }) inside.committed (appended g c)
          c.self.invariant.2 (answers-commit-none c.args.t c.args.x c.args.call.now.first c.args.answer.now),
    )

pub returns : goal.returns
returns g c =
    let inside = c.self.inside in
    let H = inside.past.items ++ inside.history.items in
    let ms = map g.R.Recovery.meaning inside.objects.items in
    answer-comes c.quiet_moves.ensures c.op_moves.ensures c.types_stay.ensures ms (map g.R.Recovery.meaning c.do_answer-done.new.objects.items)
    inside.transactions.rows c.do_answer-done.new.transactions.rows H (inside.past.items ++ c.push_reserved.new.self.items)
    c.args.w c.args.t c.args.x c.args.call.now.first c.args.answer.now c.self.invariant.1.store.kept
    (still-open c.rows_say_who_is_open.ensures ms inside.transactions.rows H inside.limits inside.forgotten c.args.self.now c.args.t
    c.self.view_is c.self.invariant.1.store.kept c.requires.still_open) (done g c) (appended g c) inside.limits inside.forgotten c.args.self.now c.self.view_is (roomy g c)
    (called g c).1.defined
