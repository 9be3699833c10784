use Rattle.std.proofs.Common.{◌≡◌, ◌+◌, ◌<◌, ◌≤◌, true, [], ◌∷◌, ◌++◌, length, map, vec_len, vec_capacity, None, Some, slice_get, refl, sym, ap, subst, ◌∙◌, arith}
use Rattle.std.proofs.lemmas.List.{length-map}
use Rattle.object_calls.specs.Answers.{answer_of}
use Rattle.object_calls.specs.declared.answer.Answer.TheVariants as answered
use Rattle.store.specs.Executed.{IsCommittedAt}
use Rattle.store.specs.WholeCalls.{IsTransacted}
use Rattle.store.proofs.Stored.{shown}
use Rattle.store_laws.specs.Kept.{keeping}
use Rattle.store.proofs.Rooms.{succeeded, rows-fit, room-is}
use Rattle.store.proofs.Pasts.{past-length, past-test}
use Rattle.store.proofs.Commits.{commits-within}
use Rattle.store.proofs.Executed.{failed, seen-at}
use Rattle.object_trait.specs.Steps.{MayApply}
use Rattle.store.proofs.Answered.{called-inside, one-at, reply-may}
use Rattle.store.proofs.WholeCalls.{MayTransact, unchanged-shown, whole-roomier, call-there, begun-given, begun-free, transacted-whole, transacted-is, whole-last, whole-counted}
use Rattle.store.proofs.store.Store.transact.Goals as goal

pub choose-requires-after_bounds : goal.choose-requires-after_bounds
choose-requires-after_bounds g c κs bounds =
    let inside = c.self.inside in
    let H = inside.past.items ++ inside.history.items in
    let ms = map g.R.Recovery.meaning inside.objects.items in
    let rows = inside.transactions.rows in
    let opened = c.open_count-opened.result in
    let within : c.args.x < length inside.objects.items =
    called-inside ms rows H inside.limits inside.forgotten c.args.self.now c.args.x c.args.call.now c.self.view_is c.requires (length inside.objects.items) (length-map inside.objects.items g.R.Recovery.meaning) in
    let m = g.R.Recovery.meaning c.index.result.now in
    let there : slice_get ms c.args.x ≡ Some m = seen-at g.R.Recovery.meaning inside.objects.items c.args.x c.index.result.now within (rw c.number.ensures.exact at c.index.ensures) in
    let is_call = call-there ms rows H inside.limits inside.forgotten c.args.self.now c.args.x c.args.call.now c.self.view_is c.requires m there in
    is_call

pub commit_at-requires-clause-inside : goal.commit_at-requires-clause-inside
commit_at-requires-clause-inside g c κs outlives =
    let inside = c.self.inside in
    let H = inside.past.items ++ inside.history.items in
    let ms = map g.R.Recovery.meaning inside.objects.items in
    let rows = inside.transactions.rows in
    let opened = c.open_count-opened.result in
    called-inside ms rows H inside.limits inside.forgotten c.args.self.now c.args.x c.args.call.now c.self.view_is c.requires (length inside.objects.items) (length-map inside.objects.items g.R.Recovery.meaning)

pub commit_at-requires-clause-may : goal.commit_at-requires-clause-may
commit_at-requires-clause-may g c κs outlives = λ other found.
    let inside = c.self.inside in
    let H = inside.past.items ++ inside.history.items in
    let ms = map g.R.Recovery.meaning inside.objects.items in
    let rows = inside.transactions.rows in
    let opened = c.open_count-opened.result in
    let within : c.args.x < length inside.objects.items =
    called-inside ms rows H inside.limits inside.forgotten c.args.self.now c.args.x c.args.call.now c.self.view_is c.requires (length inside.objects.items) (length-map inside.objects.items g.R.Recovery.meaning) in
    let m = g.R.Recovery.meaning c.index.result.now in
    let there : slice_get ms c.args.x ≡ Some m = seen-at g.R.Recovery.meaning inside.objects.items c.args.x c.index.result.now within (rw c.number.ensures.exact at c.index.ensures) in
    let is_call = call-there ms rows H inside.limits inside.forgotten c.args.self.now c.args.x c.args.call.now c.self.view_is c.requires m there in
    let limited = room-is (length H + opened + 3) inside.limits.events (past-test inside.past.items c.deref.result.now inside.history.items inside.forgotten opened 3 inside.limits.events c.has_room.result true c.self.invariant.0 c.has_room.ensures c.deref.ensures.value c.if-not-has_room.false) in
    let made : vec_len c.reserve.new.self + (opened + 3) ≤ vec_capacity c.reserve.new.self = succeeded c.reserve.result (sym c.is_err.ensures.value ∙ c.if-is_err.false) c.reserve.ensures.ok in
    let long = past-length inside.past.items inside.history.items inside.forgotten c.self.invariant.0 in
    let may : MayTransact ms rows H inside.calls.items (inside.forgotten + vec_capacity inside.history) (inside.forgotten + vec_capacity c.reserve.new.self) inside.limits inside.counts c.args.w opened =
    record {
      whole = c.self.invariant.1;
      exact = c.open_count-opened.ensures.exact;
      fits = omega arith;
      reserved = omega (arith, long, made, c.reserve.ensures.len, inside.history.ok.0);
      limited = limited;
      few = c.if-opened-self.false;
    } in
    let is : answered.Reply c.in-Reply.k ≡ answer_of m (length rows) c.args.call.now.first =
    sym c.in-Reply.is ∙ c.choose.ensures ∙ ap (λ t. answer_of m t c.args.call.now.first) c.begun-t.ensures in
    let given = begun-given c.whole_is_known.ensures.says c.whole_is_known.ensures.counted c.whole_is_known.ensures.begins c.whole_is_known.ensures.stays c.whole_is_known.ensures.room c.whole_is_known.ensures.types may c.whole_is_known.ensures.defined there is_call is in
    let same : m ≡ other = one-at ms c.args.x m other there found in
    subst (λ z. MayApply z c.begun-t.result c.in-Reply.k) same
    (subst (λ t. MayApply m t c.in-Reply.k) (sym c.begun-t.ensures)
    (reply-may given c.answers_are_known.ensures.least c.answers_are_known.ensures.follows c.answers_are_known.ensures.applies c.answers_are_known.ensures.counted
    c.in-Reply.k inside.limits refl (begun-free c.whole_is_known.ensures.says c.whole_is_known.ensures.counted c.whole_is_known.ensures.begins c.whole_is_known.ensures.stays c.whole_is_known.ensures.room c.whole_is_known.ensures.types may) (omega arith)))

pub returns-then-opened-self : goal.returns-then-opened-self
returns-then-opened-self g c = refl

pub returns-in_default : goal.returns-in_default
returns-in_default g c = refl

pub invariant_of-self : goal.invariant_of-self
invariant_of-self g c =
    let inside = c.self.inside in
    let its =
    whole-roomier refl refl (ap (λ K. inside.past.items ++ K) c.reserve.ensures.items) inside.calls.items (inside.forgotten + vec_capacity inside.history) (inside.forgotten + vec_capacity c.reserve.new.self)
    inside.limits inside.counts inside.committed (omega (arith, c.reserve.ensures.capacity)) c.self.invariant.1 c.self.invariant.2 in
    (c.self.invariant.0, its.0, its.1)

pub returns-then-is_err : goal.returns-then-is_err
returns-then-is_err g c =
    let inside = c.self.inside in
    unchanged-shown (map g.R.Recovery.meaning inside.objects.items) (map g.R.Recovery.meaning inside.objects.items) inside.transactions.rows inside.transactions.rows (inside.past.items ++ inside.history.items)
    (inside.past.items ++ c.reserve.new.self.items) inside.limits inside.forgotten c.args.self.now c.self.view_is refl (ap (λ K. inside.past.items ++ K) c.reserve.ensures.items)

pub invariant_of-self-then-is_err-2 : goal.invariant_of-self-then-is_err-2
invariant_of-self-then-is_err-2 g c =
    let inside = c.self.inside in
    let its =
    whole-roomier refl c.reserve_begin.ensures.rows (ap (λ K. inside.past.items ++ K) c.reserve.ensures.items) inside.calls.items (inside.forgotten + vec_capacity inside.history) (inside.forgotten + vec_capacity c.reserve.new.self)
    inside.limits inside.counts inside.committed (omega (arith, c.reserve.ensures.capacity)) c.self.invariant.1 c.self.invariant.2 in
    (c.self.invariant.0, its.0, its.1)

pub returns-then-is_err-2 : goal.returns-then-is_err-2
returns-then-is_err-2 g c =
    let inside = c.self.inside in
    unchanged-shown (map g.R.Recovery.meaning inside.objects.items) (map g.R.Recovery.meaning inside.objects.items) inside.transactions.rows c.reserve_begin.new.self.rows (inside.past.items ++ inside.history.items)
    (inside.past.items ++ c.reserve.new.self.items) inside.limits inside.forgotten c.args.self.now c.self.view_is refl (ap (λ K. inside.past.items ++ K) c.reserve.ensures.items)

pub invariant_of-self-then-is_err-3 : goal.invariant_of-self-then-is_err-3
invariant_of-self-then-is_err-3 g c =
    let inside = c.self.inside in
    let its =
    whole-roomier (failed c.commit_at.result (sym c.is_err-3.ensures.value ∙ c.if-is_err-3.true) c.commit_at.ensures.objects) c.reserve_begin.ensures.rows (ap (λ K. inside.past.items ++ K) c.reserve.ensures.items) inside.calls.items (inside.forgotten + vec_capacity inside.history) (inside.forgotten + vec_capacity c.reserve.new.self)
    inside.limits inside.counts inside.committed (omega (arith, c.reserve.ensures.capacity)) c.self.invariant.1 c.self.invariant.2 in
    (c.self.invariant.0, its.0, its.1)

pub returns-then-is_err-3 : goal.returns-then-is_err-3
returns-then-is_err-3 g c =
    let inside = c.self.inside in
    unchanged-shown (map g.R.Recovery.meaning inside.objects.items) (map g.R.Recovery.meaning c.commit_at.new.objects.items) inside.transactions.rows c.reserve_begin.new.self.rows (inside.past.items ++ inside.history.items)
    (inside.past.items ++ c.reserve.new.self.items) inside.limits inside.forgotten c.args.self.now c.self.view_is (failed c.commit_at.result (sym c.is_err-3.ensures.value ∙ c.if-is_err-3.true) c.commit_at.ensures.objects) (ap (λ K. inside.past.items ++ K) c.reserve.ensures.items)

pub pass-requires-clause-room : goal.pass-requires-clause-room
pass-requires-clause-room g c = succeeded c.reserve_begin.result (sym c.is_err-2.ensures.value ∙ c.if-is_err-2.false) c.reserve_begin.ensures.room

pub push_whole-requires : goal.push_whole-requires
push_whole-requires g c =
    let made : vec_len c.reserve.new.self + (c.open_count-opened.result + 3) ≤ vec_capacity c.reserve.new.self = succeeded c.reserve.result (sym c.is_err.ensures.value ∙ c.if-is_err.false) c.reserve.ensures.ok in
    omega (arith, made)

pub pass-requires-clause-fits : goal.pass-requires-clause-fits
pass-requires-clause-fits g c =
    let inside = c.self.inside in
    let H = inside.past.items ++ inside.history.items in
    let ms = map g.R.Recovery.meaning inside.objects.items in
    let rows = inside.transactions.rows in
    let opened = c.open_count-opened.result in
    let limited = room-is (length H + opened + 3) inside.limits.events (past-test inside.past.items c.deref.result.now inside.history.items inside.forgotten opened 3 inside.limits.events c.has_room.result true c.self.invariant.0 c.has_room.ensures c.deref.ensures.value c.if-not-has_room.false) in
    let few = rows-fit c.whole_is_known.ensures.few ms rows c.reserve_begin.new.self.rows H inside.limits.events c.self.invariant.1.store.kept c.reserve_begin.ensures.rows (omega (arith, limited)) in
    omega (arith, few)

pub overflow_add-self : goal.overflow_add-self
overflow_add-self g c =
    let inside = c.self.inside in
    let H = inside.past.items ++ inside.history.items in
    let ms = map g.R.Recovery.meaning inside.objects.items in
    let rows = inside.transactions.rows in
    let opened = c.open_count-opened.result in
    let limited = room-is (length H + opened + 3) inside.limits.events (past-test inside.past.items c.deref.result.now inside.history.items inside.forgotten opened 3 inside.limits.events c.has_room.result true c.self.invariant.0 c.has_room.ensures c.deref.ensures.value c.if-not-has_room.false) in
    omega (arith, limited, c.self.invariant.2, commits-within H)

pub invariant_of-self-2 : goal.invariant_of-self-2
invariant_of-self-2 g c =
    let inside = c.self.inside in
    let H = inside.past.items ++ inside.history.items in
    let ms = map g.R.Recovery.meaning inside.objects.items in
    let rows = inside.transactions.rows in
    let opened = c.open_count-opened.result in
    let within : c.args.x < length inside.objects.items =
    called-inside ms rows H inside.limits inside.forgotten c.args.self.now c.args.x c.args.call.now c.self.view_is c.requires (length inside.objects.items) (length-map inside.objects.items g.R.Recovery.meaning) in
    let m = g.R.Recovery.meaning c.index.result.now in
    let there : slice_get ms c.args.x ≡ Some m = seen-at g.R.Recovery.meaning inside.objects.items c.args.x c.index.result.now within (rw c.number.ensures.exact at c.index.ensures) in
    let is_call = call-there ms rows H inside.limits inside.forgotten c.args.self.now c.args.x c.args.call.now c.self.view_is c.requires m there in
    let limited = room-is (length H + opened + 3) inside.limits.events (past-test inside.past.items c.deref.result.now inside.history.items inside.forgotten opened 3 inside.limits.events c.has_room.result true c.self.invariant.0 c.has_room.ensures c.deref.ensures.value c.if-not-has_room.false) in
    let made : vec_len c.reserve.new.self + (opened + 3) ≤ vec_capacity c.reserve.new.self = succeeded c.reserve.result (sym c.is_err.ensures.value ∙ c.if-is_err.false) c.reserve.ensures.ok in
    let long = past-length inside.past.items inside.history.items inside.forgotten c.self.invariant.0 in
    let may : MayTransact ms rows H inside.calls.items (inside.forgotten + vec_capacity inside.history) (inside.forgotten + vec_capacity c.push_whole.new.history) inside.limits inside.counts c.args.w opened =
    record {
      whole = c.self.invariant.1;
      exact = c.open_count-opened.ensures.exact;
      fits = omega arith;
      reserved = omega (arith, long, made, c.reserve.ensures.len, inside.history.ok.0, c.push_whole.ensures.capacity);
      limited = limited;
      few = c.if-opened-self.false;
    } in
    let is : answered.Reply c.in-Reply.k ≡ answer_of m (length rows) c.args.call.now.first =
    sym c.in-Reply.is ∙ c.choose.ensures ∙ ap (λ t. answer_of m t c.args.call.now.first) c.begun-t.ensures in
    let given = begun-given c.whole_is_known.ensures.says c.whole_is_known.ensures.counted c.whole_is_known.ensures.begins c.whole_is_known.ensures.stays c.whole_is_known.ensures.room c.whole_is_known.ensures.types may c.whole_is_known.ensures.defined there is_call is in
    let left : c.pass.new.self.rows ≡ rows ++ None ∷ [] = c.pass.ensures.rows ∙ ap (λ R. R ++ None ∷ []) c.reserve_begin.ensures.rows in
    let did = succeeded c.commit_at.result (sym c.is_err-3.ensures.value ∙ c.if-is_err-3.false) c.commit_at.ensures.done in
    let done : IsCommittedAt (length rows) c.args.x c.in-Reply.k ms (map g.R.Recovery.meaning c.commit_at.new.objects.items) =
    subst (λ t. IsCommittedAt t c.args.x c.in-Reply.k ms (map g.R.Recovery.meaning c.commit_at.new.objects.items)) c.begun-t.ensures did in
    let after =
    whole-last inside.past.items inside.history.items c.reserve.new.self.items c.push_whole.new.history.items c.args.w c.begun-t.result (length rows) c.number-2.result c.args.x c.in-Reply.k
    c.push_whole.ensures.items c.reserve.ensures.items c.begun-t.ensures c.number-2.ensures.exact in (
      c.self.invariant.0,
      rw (left, after) (transacted-whole c.whole_is_known.ensures.quiet c.whole_is_known.ensures.works c.whole_is_known.ensures.ends c.answers_are_known.ensures.least c.answers_are_known.ensures.follows c.whole_is_known.ensures.says c.whole_is_known.ensures.counted c.whole_is_known.ensures.begins c.whole_is_known.ensures.stays c.whole_is_known.ensures.room c.whole_is_known.ensures.types may given done),
      whole-counted H (inside.past.items ++ c.push_whole.new.history.items) c.args.w (length rows) c.args.x c.in-Reply.k inside.committed after c.self.invariant.2,
    )

pub returns : goal.returns
returns g c =
    let inside = c.self.inside in
    let H = inside.past.items ++ inside.history.items in
    let ms = map g.R.Recovery.meaning inside.objects.items in
    let rows = inside.transactions.rows in
    let opened = c.open_count-opened.result in
    let within : c.args.x < length inside.objects.items =
    called-inside ms rows H inside.limits inside.forgotten c.args.self.now c.args.x c.args.call.now c.self.view_is c.requires (length inside.objects.items) (length-map inside.objects.items g.R.Recovery.meaning) in
    let m = g.R.Recovery.meaning c.index.result.now in
    let there : slice_get ms c.args.x ≡ Some m = seen-at g.R.Recovery.meaning inside.objects.items c.args.x c.index.result.now within (rw c.number.ensures.exact at c.index.ensures) in
    let is_call = call-there ms rows H inside.limits inside.forgotten c.args.self.now c.args.x c.args.call.now c.self.view_is c.requires m there in
    let limited = room-is (length H + opened + 3) inside.limits.events (past-test inside.past.items c.deref.result.now inside.history.items inside.forgotten opened 3 inside.limits.events c.has_room.result true c.self.invariant.0 c.has_room.ensures c.deref.ensures.value c.if-not-has_room.false) in
    let made : vec_len c.reserve.new.self + (opened + 3) ≤ vec_capacity c.reserve.new.self = succeeded c.reserve.result (sym c.is_err.ensures.value ∙ c.if-is_err.false) c.reserve.ensures.ok in
    let long = past-length inside.past.items inside.history.items inside.forgotten c.self.invariant.0 in
    let may : MayTransact ms rows H inside.calls.items (inside.forgotten + vec_capacity inside.history) (inside.forgotten + vec_capacity c.push_whole.new.history) inside.limits inside.counts c.args.w opened =
    record {
      whole = c.self.invariant.1;
      exact = c.open_count-opened.ensures.exact;
      fits = omega arith;
      reserved = omega (arith, long, made, c.reserve.ensures.len, inside.history.ok.0, c.push_whole.ensures.capacity);
      limited = limited;
      few = c.if-opened-self.false;
    } in
    let is : answered.Reply c.in-Reply.k ≡ answer_of m (length rows) c.args.call.now.first =
    sym c.in-Reply.is ∙ c.choose.ensures ∙ ap (λ t. answer_of m t c.args.call.now.first) c.begun-t.ensures in
    let given = begun-given c.whole_is_known.ensures.says c.whole_is_known.ensures.counted c.whole_is_known.ensures.begins c.whole_is_known.ensures.stays c.whole_is_known.ensures.room c.whole_is_known.ensures.types may c.whole_is_known.ensures.defined there is_call is in
    let left : c.pass.new.self.rows ≡ rows ++ None ∷ [] = c.pass.ensures.rows ∙ ap (λ R. R ++ None ∷ []) c.reserve_begin.ensures.rows in
    let did = succeeded c.commit_at.result (sym c.is_err-3.ensures.value ∙ c.if-is_err-3.false) c.commit_at.ensures.done in
    let done : IsCommittedAt (length rows) c.args.x c.in-Reply.k ms (map g.R.Recovery.meaning c.commit_at.new.objects.items) =
    subst (λ t. IsCommittedAt t c.args.x c.in-Reply.k ms (map g.R.Recovery.meaning c.commit_at.new.objects.items)) c.begun-t.ensures did in
    let after =
    whole-last inside.past.items inside.history.items c.reserve.new.self.items c.push_whole.new.history.items c.args.w c.begun-t.result (length rows) c.number-2.result c.args.x c.in-Reply.k
    c.push_whole.ensures.items c.reserve.ensures.items c.begun-t.ensures c.number-2.ensures.exact in
    subst (λ K. IsTransacted c.args.self.now c.args.w c.args.x c.args.call.now.first c.in-Reply.k (shown (keeping (map g.R.Recovery.meaning c.commit_at.new.objects.items) c.pass.new.self.rows) K inside.limits inside.forgotten)) (sym after)
    (transacted-is c.whole_is_known.ensures.quiet c.whole_is_known.ensures.works c.whole_is_known.ensures.ends c.answers_are_known.ensures.least c.answers_are_known.ensures.follows c.whole_is_known.ensures.says c.whole_is_known.ensures.counted c.whole_is_known.ensures.begins c.whole_is_known.ensures.stays c.whole_is_known.ensures.room c.whole_is_known.ensures.types may given done c.if-opened-self.false inside.forgotten c.args.self.now c.self.view_is)
