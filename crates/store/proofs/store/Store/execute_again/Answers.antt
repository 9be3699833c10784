use Rattle.std.proofs.Common.{◌≡◌, ◌<◌, ◌+◌, ◌≤◌, false, [], ◌∷◌, ◌++◌, length, map, vec_len, vec_capacity, Some, slice_get, refl, sym, ap, subst, ◌∙◌, arith}
use Rattle.std.proofs.lemmas.List.{length-map}
use Rattle.object_trait.specs.declared.event.EventKind.TheVariants.{Op}
use Rattle.serial_order.specs.Replay.{is_history_full}
use Rattle.object_calls.specs.declared.answer.Answer.TheVariants as answer
use Rattle.store_laws.specs.Stored.{Stored}
use Rattle.store.specs.Executed.{IsExecuted}
use Rattle.store.proofs.Answered.{answer-whole}
use Rattle.store.proofs.Commits.{not-counted}
use Rattle.store.proofs.DoneAgain.{op-follows, op-inside, op-open, op-may, op-shown}
use Rattle.store.proofs.Pasts.{past-more, past-length}
use Rattle.store.proofs.store.Store.execute_again.Given.{Over}
use Rattle.store.proofs.store.Store.execute_again.Goals as goal

pub of-object-requires : goal.of-object-requires
of-object-requires g c =
    let low =
    op-inside (map g.R.Recovery.meaning c.self.inside.objects.items) c.self.inside.transactions.rows (c.self.inside.past.items ++ c.self.inside.history.items) c.self.inside.limits c.self.inside.forgotten c.args.self.now
    c.args.w c.args.t c.args.x c.args.k c.self.invariant.1.store.kept c.self.view_is c.requires.run
    (length c.self.inside.objects.items) (length-map c.self.inside.objects.items g.R.Recovery.meaning) in
    omega (arith, low, c.self.invariant.1.within.few, c.self.invariant.1.within.numbered, length-map c.self.inside.objects.items g.R.Recovery.meaning)

pub execute-requires-clause-inside : goal.execute-requires-clause-inside
execute-requires-clause-inside g c κs within =
    subst (λ y. y < length c.self.inside.objects.items) (sym c.of-object.ensures)
    (op-inside (map g.R.Recovery.meaning c.self.inside.objects.items) c.self.inside.transactions.rows (c.self.inside.past.items ++ c.self.inside.history.items) c.self.inside.limits c.self.inside.forgotten c.args.self.now
    c.args.w c.args.t c.args.x c.args.k c.self.invariant.1.store.kept c.self.view_is c.requires.run
    (length c.self.inside.objects.items) (length-map c.self.inside.objects.items g.R.Recovery.meaning))

pub execute-requires-clause-still_open : goal.execute-requires-clause-still_open
execute-requires-clause-still_open g c κs within =
    op-open (map g.R.Recovery.meaning c.self.inside.objects.items) c.self.inside.transactions.rows (c.self.inside.past.items ++ c.self.inside.history.items) c.self.inside.limits c.self.inside.forgotten c.args.self.now
    c.args.w c.args.t c.args.x c.args.k c.self.invariant.1.store.kept c.self.view_is c.requires.run
    c.rows_say_who_is_open.ensures

pub execute-requires-clause-may : goal.execute-requires-clause-may
execute-requires-clause-may g c κs within = λ m there.
    op-may (map g.R.Recovery.meaning c.self.inside.objects.items) c.self.inside.transactions.rows (c.self.inside.past.items ++ c.self.inside.history.items) c.self.inside.limits c.self.inside.forgotten c.args.self.now
    c.args.w c.args.t c.args.x c.args.k c.self.invariant.1.store.kept c.self.view_is c.requires.run
    c.machine_may_apply.ensures c.logs_are_counted.ensures c.requires.room (omega arith) m
    (subst (λ y. slice_get (map g.R.Recovery.meaning c.self.inside.objects.items) y ≡ Some m) c.of-object.ensures there)

-- it is executed
done : (g : Over) (c : goal.After-push_reserved g)
    → IsExecuted c.args.t c.args.x c.args.k (map g.R.Recovery.meaning c.self.inside.objects.items) (map g.R.Recovery.meaning c.execute.new.objects.items)
    c.self.inside.transactions.rows c.execute.new.transactions.rows
done g c =
    subst (λ y. IsExecuted c.args.t y c.args.k (map g.R.Recovery.meaning c.self.inside.objects.items) (map g.R.Recovery.meaning c.execute.new.objects.items)
    c.self.inside.transactions.rows c.execute.new.transactions.rows) c.of-object.ensures c.in_ok-execute.ensures.done

-- its event is the last
appended : (g : Over) (c : goal.After-push_reserved g)
    → c.self.inside.past.items ++ c.push_reserved.new.self.items
    ≡ (c.self.inside.past.items ++ c.self.inside.history.items) ++ (record { worker = c.args.w; kind = Op c.args.k c.args.t c.args.x }) ∷ []
appended g c =
    past-more c.self.inside.past.items c.self.inside.history.items c.push_reserved.new.self.items (record { worker = c.args.w; kind = Op c.args.k c.args.t c.args.x })
    (c.push_reserved.ensures.items ∙ ap (λ K. K ++ (record { worker = c.args.w; kind = Op c.args.k c.args.t c.args.x }) ∷ []) c.reserve.ensures.items)

pub invariant_of-self-2 : goal.invariant_of-self-2
invariant_of-self-2 g c =
    let inside = c.self.inside in
    let H = inside.past.items ++ inside.history.items in
    let ms = map g.R.Recovery.meaning inside.objects.items in
    let made : vec_len c.reserve.new.self + (c.open_count-opened.result + 1) ≤ vec_capacity c.reserve.new.self = c.in_ok-reserve.ensures.ok in
    let long = past-length inside.past.items inside.history.items inside.forgotten c.self.invariant.0 in
    let free : is_history_full inside.limits H 1 ≡ false = subst (λ (z : Stored). is_history_full z.limits z.history 1 ≡ false) (sym c.self.view_is) c.requires.room in (
      c.self.invariant.0,
      answer-whole c.quiet_moves.ensures c.op_moves.ensures c.types_stay.ensures ms (map g.R.Recovery.meaning c.execute.new.objects.items)
          inside.transactions.rows c.execute.new.transactions.rows H (inside.past.items ++ c.push_reserved.new.self.items)
          c.args.w c.args.t c.args.x 0 (answer.Reply c.args.k) c.self.invariant.1.store.kept
          (op-open (map g.R.Recovery.meaning c.self.inside.objects.items) c.self.inside.transactions.rows (c.self.inside.past.items ++ c.self.inside.history.items) c.self.inside.limits c.self.inside.forgotten c.args.self.now
          c.args.w c.args.t c.args.x c.args.k c.self.invariant.1.store.kept c.self.view_is c.requires.run c.rows_say_who_is_open.ensures) (done g c) (appended g c)
          c.stays_kept.ensures c.room_after.ensures c.rows_are_counted.ensures inside.calls.items (inside.forgotten + vec_capacity inside.history) (inside.forgotten + vec_capacity c.push_reserved.new.self) inside.limits
          c.open_count-opened.result c.self.invariant.1 (op-follows (map g.R.Recovery.meaning c.self.inside.objects.items) c.self.inside.transactions.rows (c.self.inside.past.items ++ c.self.inside.history.items) c.self.inside.limits c.self.inside.forgotten c.args.self.now
          c.args.w c.args.t c.args.x c.args.k c.self.invariant.1.store.kept c.self.view_is c.requires.run)
          c.open_count-opened.ensures.exact (omega arith)
          (omega (arith, long, made, c.reserve.ensures.len, c.push_reserved.ensures.capacity, inside.history.ok.0)) free,
      not-counted H (inside.past.items ++ c.push_reserved.new.self.items) (record { worker = c.args.w; kind = Op c.args.k c.args.t c.args.x }) inside.committed (appended g c) c.self.invariant.2 refl,
    )

pub returns-clause-done : goal.returns-clause-done
returns-clause-done g c =
    op-shown (map g.R.Recovery.meaning c.self.inside.objects.items) c.self.inside.transactions.rows (c.self.inside.past.items ++ c.self.inside.history.items) c.self.inside.limits c.self.inside.forgotten c.args.self.now
    c.args.w c.args.t c.args.x c.args.k c.self.invariant.1.store.kept c.self.view_is c.requires.run
    c.quiet_moves.ensures c.op_moves.ensures c.types_stay.ensures c.rows_say_who_is_open.ensures
    (map g.R.Recovery.meaning c.execute.new.objects.items) c.execute.new.transactions.rows (c.self.inside.past.items ++ c.push_reserved.new.self.items) (done g c) (appended g c)
