-- A whole transaction of one call.
use Rattle.store_limits.specs.declared.limits.Limits.{Limits}
use Rattle.std.proofs.Common.{◌≡◌, ◌≢◌, ℕ, ◌+◌, ◌<◌, ◌≤◌, ◌==◌, ◌||◌, Bool, true, false, List, [], ◌∷◌, ◌++◌, length, set, nat_le, Option, Some, None, is_some, Ok, Result, Err, slice_get, refl, sym, ap, subst, ◌∙◌, inl, inr, arith}
use Rattle.std.specs.Option.{option_map}
use Rattle.std.proofs.lemmas.Bool.{eq-eqb, eqb-true, or_left}
use Rattle.std.proofs.lemmas.Bool.Decides.{nat_tests}
use Rattle.std.proofs.lemmas.List.{length-set, set-set, get_or-set_same, get_or_push, length-append}
use Rattle.std.proofs.lemmas.Option.{same_Some, slice_get_within}
use Rattle.type_table.proofs.Elements.{found-set, found-set_other}
use Rattle.object_trait.specs.Meaning.{Meaning, object}
use Rattle.object_trait.specs.Object.{Object}
use Rattle.object_trait.specs.Steps.{applied, IsCommit}
use Rattle.object_trait.specs.declared.event.Event.{Event}
use Rattle.object_trait.specs.declared.event.EventKind.TheVariants.{Begin, Op, Commit}
use Rattle.serial_order.specs.History.{summary, is_open, commits}
use Rattle.serial_order.specs.History.{begins as begins_of}
use Rattle.serial_order.specs.Replay.{open_count, is_history_full, call_at}
use Rattle.serial_order.specs.Laws.{FirstOpIsLeast, AnswerMayFollow}
use Rattle.object_calls.specs.Ends.{is_at, ChangesAt, EndsObject}
use Rattle.object_calls.specs.Answers.{answer_of}
use Rattle.object_calls.specs.Calls.{IsCall}
use Rattle.object_calls.specs.declared.call.Call.{Call as CallOf}
use Rattle.object_calls.specs.declared.call.NamedCall.{NamedCall}
use Rattle.object_calls.specs.declared.answer.Answer.{Answer}
use Rattle.object_calls.specs.declared.answer.Answer.TheVariants as answer
use Rattle.serial_order.specs.declared.command.Command.TheVariants as command
use Rattle.serial_order.specs.declared.command.Command.TheVariants.{Call}
use Rattle.serial_order.specs.declared.refusal.Refusal.{Refusal}
use Rattle.object_calls.specs.declared.end.End.TheVariants as end
use Rattle.open_transactions.specs.Transactions as table
use Rattle.open_transactions.specs.Transactions.{Row, row, objects_of_row, pushed, changed, count_open, begun_by}
use Rattle.open_transactions.proofs.Counts.{count-same, count-more, count-none}
use Rattle.store_laws.specs.Stored.{Stored, objects, types_of, stored_after, Steps, MayStep}
use Rattle.store_laws.specs.Words.{as_event, AnswersAsDefined}
use Rattle.store_laws.specs.Kept.{keeping, objects_of, worked_objects, IsKept}
use Rattle.store_laws.specs.Moves.{StaysKept}
use Rattle.store_laws.specs.Before.{RowsSayWhoIsOpen, RowsAreCounted}
use Rattle.store_laws.specs.Events.{QuietMoves, BeginMoves, OpMoves, EndMoves, TypesStay, RoomAfter}
use Rattle.store_laws.proofs.Objects.{object-at}
use Rattle.store_laws.proofs.Places as places
use Rattle.store.specs.Executed.{IsExecuted, IsCommittedAt}
use Rattle.store.specs.Calls.{NotesAnswer, AnswersCall}
use Rattle.store.specs.Whole.{IsWholeStore}
use Rattle.store.specs.WholeCalls.{IsTransacted, TransactsCall, TransactsNamed, TransactsNumbered}
use Rattle.store.proofs.Steps.{refused-steps, accepted-steps}
use Rattle.store.proofs.Stored.{stored, shown}
use Rattle.store.proofs.Pasts.{past-more}
use Rattle.store.proofs.Commits.{not-counted, counted-on}
use Rattle.store.proofs.Begins.{full-else, begin-unrefused, begin-number, begin-whole, begin-shown}
use Rattle.store.proofs.OneAnswer.{with-room, without-room, its-event}
use Rattle.store.proofs.Opens.{some-of, open-alike}
use Rattle.store.proofs.Endings.{end-whole, end-shown}
use Rattle.store.proofs.Answered.{IsThere, IsGiven, one-at, answer-defined, answer-follows, answer-whole, answer-comes}

-- ---- at the objects

-- the one place of a list
one-place : (b : Bool) → (b || false) ≡ true → b ≡ true
one-place true at = refl
one-place false at = at

first-place : (x y : ℕ) → y ≡ x → is_at (x ∷ []) y
first-place x y is = or_left (x == y) false (eq-eqb x y (sym is))

-- where it was executed and committed, and nowhere else
pub commits-there : {t x k : ℕ} {ms now : List Meaning} (m : Meaning) → slice_get ms x ≡ Some m → IsCommittedAt t x k ms now
    → ChangesAt (x ∷ []) (λ y a b. EndsObject end.Commit a t b) (set ms x (applied m t k)) now
commits-there {t} {x} {k} {ms} {now} m there done =
    let inside : x < length ms = slice_get_within ms x m there in
    let same : done.m ≡ m = one-at ms x done.m m done.there there in
    record {
      as_many = ap length done.object ∙ length-set ms x done.after ∙ sym (length-set ms x (applied m t k));
      changed = λ y a b before after at.
          let here : x ≡ y = eqb-true x y (one-place (x == y) at) in
          let was : applied m t k ≡ a = same_Some (applied m t k) a (sym (found-set ms x (applied m t k) inside) ∙ ap (slice_get (set ms x (applied m t k))) here ∙ before) in
          let is : done.after ≡ b = same_Some done.after b (sym (found-set ms x done.after inside) ∙ ap (λ V. slice_get V x) (sym done.object) ∙ ap (slice_get now) here ∙ after) in
          subst (λ z. IsCommit z t b) was (subst (λ z. IsCommit (applied m t k) t z) is (subst (λ z. IsCommit (applied z t k) t done.after) same done.commits));
      others = λ y elsewhere.
          let away : y ≢ x = λ is. elsewhere (first-place x y is) in
          ap (λ V. slice_get V y) done.object ∙ found-set_other ms x y done.after away ∙ sym (found-set_other ms x y (applied m t k) away);
    }

-- ---- the row of the transaction

-- one that did nothing has no places
pub works-nowhere : (ms : List Meaning) (rows : List (Option Row)) (H : List Event) (t : ℕ) → IsKept (keeping ms rows) H → table.has_row rows t ≡ true
    → objects_of_row (row rows t) ≡ worked_objects t (summary H)
works-nowhere ms rows H t kept going =
    let found = some-of (row rows t) going in
    ap objects_of_row found.1 ∙ places.row-places (keeping ms rows) H t found.0 kept found.1

module _ (ms : List Meaning) (rows : List (Option Row)) (H : List Event) (t x : ℕ) (kept : IsKept (keeping ms rows) H) (going : table.has_row rows t ≡ true)
    (only : worked_objects t (summary H) ≡ []) where
  its : (r : Row) × (row rows t ≡ Some r)
  its = some-of (row rows t) going

  -- it is there
  within : t < length rows
  within = slice_get_within rows t (Some its.0) (places.row-at (keeping ms rows) H t its.0 kept its.1)

  abbrev pub placed : List (Option Row)
  placed = changed rows t (pushed x)

  placed-is : placed ≡ set rows t (Some (pushed x its.0))
  placed-is = ap (λ r. set rows t (option_map (pushed x) r)) its.1

  placed-row : row placed t ≡ Some (pushed x its.0)
  placed-row = ap (λ R. row R t) placed-is ∙ get_or-set_same rows t (Some (pushed x its.0)) None within

  -- and then it has one place
  pub placed-going : table.has_row placed t ≡ true
  placed-going = ap is_some placed-row

  pub placed-at : (x ∷ []) ≡ objects_of_row (row placed t)
  placed-at =
      let none : (its.0).places ≡ [] = sym (ap objects_of_row its.1) ∙ works-nowhere ms rows H t kept going ∙ only in
      sym (ap objects_of_row placed-row ∙ ap (λ ps. ps ++ x ∷ []) none)

  pub placed-count : count_open placed ≡ count_open rows
  placed-count = ap count_open placed-is ∙ count-same rows t (pushed x its.0) going

  pub placed-gone : (left : List (Option Row)) → left ≡ set rows t None → left ≡ set placed t None
  placed-gone left gone = gone ∙ sym (ap (λ R. set R t None) placed-is ∙ set-set rows t (Some (pushed x its.0)) None)

-- ---- both events

module _ (quiet : QuietMoves) (op : OpMoves) (ends : EndMoves) (says : RowsSayWhoIsOpen) (types : TypesStay) (stays : StaysKept) (room_after : RoomAfter) (counted : RowsAreCounted)
    (least : FirstOpIsLeast) (follow : AnswerMayFollow)
    {ms now : List Meaning} {rows left : List (Option Row)} {H : List Event} {t x k : ℕ} {call : CallOf} {m : Meaning} (given : IsGiven ms rows H t x call m (answer.Reply k))
    (calls : List (List NamedCall)) (room more : ℕ) (limits : Limits) {many : ℕ} (whole : IsWholeStore ms calls rows H room limits many)
    (w opened : ℕ) (going : table.has_row rows t ≡ true) (only : worked_objects t (summary H) ≡ []) (done : IsCommittedAt t x k ms now) (gone : left ≡ set rows t None)
    (free : is_history_full limits H 1 ≡ false) where
  abbrev pub called : List Event
  called = H ++ (record { worker = w; kind = Op k t x }) ∷ []

  abbrev pub meanings : List Meaning
  meanings = set ms x (applied m t k)

  abbrev pub its_rows : List (Option Row)
  its_rows = placed ms rows H t x given.kept going only

  executed : IsExecuted t x k ms meanings rows its_rows
  executed = record { m = m; there = given.there; object = refl; row = refl }

  -- behind the reply
  pub reply-whole : opened ≡ count_open rows → limits.events ≤ 4294967295 → length H + opened + 1 ≤ more → IsWholeStore meanings calls its_rows called more limits many
  reply-whole exact fits reserved =
      answer-whole quiet op types ms meanings rows its_rows H called w t x call.first (answer.Reply k) given.kept going executed refl
      stays room_after counted calls room more limits opened whole (answer-follows given least follow w) exact fits reserved free

  -- behind the commit
  pub only-whole : (after : List Event) → after ≡ called ++ (record { worker = w; kind = Commit t }) ∷ [] → opened ≡ count_open rows → limits.events ≤ 4294967295 → length H + opened + 1 ≤ more
      → count_open left + 1 ≡ count_open rows → IsWholeStore now calls left after more limits many
  only-whole after appended exact fits reserved fewer =
      let mid = reply-whole exact fits reserved in
      end-whole end.Commit ends says meanings now its_rows left called after w t (x ∷ []) mid.store.kept
      (placed-going ms rows H t x given.kept going only) (placed-at ms rows H t x given.kept going only) (commits-there m given.there done)
      (placed-gone ms rows H t x given.kept going only left gone) appended stays room_after types counted calls more more limits mid (omega arith) fits
      (fewer ∙ sym (placed-count ms rows H t x given.kept going only))

  -- as callers see them: the reply, and the commit behind it
  pub only-answers : (forgotten : ℕ) (s : Stored) → shown (keeping ms rows) H limits forgotten ≡ s → AnswersCall s w t x call.first (Ok (answer.Reply k)) (shown (keeping meanings its_rows) called limits forgotten)
  only-answers forgotten s same = answer-comes quiet op types ms meanings rows its_rows H called w t x call.first (answer.Reply k) given.kept going executed refl limits forgotten s same free given.defined

  pub only-commits : (after : List Event) → after ≡ called ++ (record { worker = w; kind = Commit t }) ∷ [] → opened ≡ count_open rows → limits.events ≤ 4294967295 → length H + opened + 1 ≤ more
      → (forgotten : ℕ) → shown (keeping now left) after limits forgotten ≡ stored_after (shown (keeping meanings its_rows) called limits forgotten) w (command.Commit t)
  only-commits after appended exact fits reserved forgotten =
      let mid = reply-whole exact fits reserved in
      (end-shown end.Commit ends says meanings now its_rows left called after w t (x ∷ []) mid.store.kept
      (placed-going ms rows H t x given.kept going only) (placed-at ms rows H t x given.kept going only) (commits-there m given.there done)
      (placed-gone ms rows H t x given.kept going only left gone) appended types (Unit {0}) tt limits forgotten (shown (keeping meanings its_rows) called limits forgotten) refl).1

-- ---- with the begin before them

-- a row at the end
pub last-row : (rows : List (Option Row)) (r : Row) → row (rows ++ Some r ∷ []) (length rows) ≡ Some r
last-row rows r = get_or_push rows (Some r) None (length rows) refl

last-gone : (rows : List (Option Row)) (r : Row) → rows ++ None ∷ [] ≡ set (rows ++ Some r ∷ []) (length rows) None
last-gone [] r = refl
last-gone (o ∷ rows) r = ap (λ R. o ∷ R) (last-gone rows r)

-- nothing has changed
pub unchanged-shown : (ms now : List Meaning) (rows left : List (Option Row)) (H after : List Event) (limits : Limits) (forgotten : ℕ) (s : Stored) → shown (keeping ms rows) H limits forgotten ≡ s
    → now ≡ ms → after ≡ H → shown (keeping now left) after limits forgotten ≡ s
unchanged-shown ms now rows left H after limits forgotten s same unchanged stays =
    ap (λ ns. stored (types_of ns) after limits forgotten) unchanged ∙ ap (λ K. stored (types_of ms) K limits forgotten) stays ∙ same

-- a store as it was, with no less room
pub whole-roomier : {ms now : List Meaning} {rows left : List (Option Row)} {H K : List Event} → now ≡ ms → left ≡ rows → K ≡ H
    → (calls : List (List NamedCall)) (room more : ℕ) (limits : Limits) (many committed : ℕ) → room ≤ more → IsWholeStore ms calls rows H room limits many → committed ≡ length (commits H)
    → IsWholeStore now calls left K more limits many × (committed ≡ length (commits K))
whole-roomier {ms} {now} {rows} {left} {H} {K} objects row events calls room more limits many committed wider whole counted = (
  subst (λ z. IsWholeStore z calls left K more limits many) (sym objects)
      (subst (λ r. IsWholeStore ms calls r K more limits many) (sym row)
      (subst (λ J. IsWholeStore ms calls rows J more limits many) (sym events)
      (record {
        store = record { kept = whole.store.kept; reserved = omega (arith, whole.store.reserved, wider); limited = whole.store.limited };
        within = whole.within;
        few_open = whole.few_open;
        known = whole.known;
      }))),
  subst (λ J. committed ≡ length (commits J)) (sym events) counted,
)

-- what is known of a store that may begin one
pub record MayTransact (ms : List Meaning) (rows : List (Option Row)) (H : List Event) (calls : List (List NamedCall)) (room more : ℕ) (limits : Limits) (many w opened : ℕ) : Type 0 where
  pub whole : IsWholeStore ms calls rows H room limits many
  pub exact : opened ≡ count_open rows
  pub fits : limits.events ≤ 4294967295
  pub reserved : length H + opened + 3 ≤ more
  pub limited : length H + opened + 3 ≤ limits.events
  pub few : opened < limits.«open»

module _ (says : RowsSayWhoIsOpen) (counted : RowsAreCounted) (begins : BeginMoves) (stays : StaysKept) (room_after : RoomAfter) (types : TypesStay)
    {ms : List Meaning} {rows : List (Option Row)} {H : List Event} {calls : List (List NamedCall)} {room more : ℕ} {limits : Limits} {many w opened : ℕ}
    (may : MayTransact ms rows H calls room more limits many w opened) where
  abbrev pub with_begin : List Event
  with_begin = H ++ (record { worker = w; kind = Begin (length rows) }) ∷ []

  abbrev pub with_row : List (Option Row)
  with_row = rows ++ Some (begun_by w) ∷ []

  pub begun-whole : IsWholeStore ms calls with_row with_begin more limits many
  begun-whole =
      let reserved = may.reserved in
      let limited = may.limited in
      begin-whole begins ms rows with_row H with_begin w (length rows) may.whole.store.kept refl refl refl stays room_after types counted calls opened room more limits may.whole may.exact may.fits
      (omega (arith, reserved)) (omega (arith, limited)) may.few

  pub begun-going : table.has_row with_row (length rows) ≡ true
  begun-going = ap is_some (last-row rows (begun_by w))

  pub begun-open : is_open (summary with_begin) (length rows) ≡ true
  begun-open = open-alike says ms with_row with_begin (length rows) begun-whole.store.kept ∙ begun-going

  -- it did nothing yet
  pub begun-only : worked_objects (length rows) (summary with_begin) ≡ []
  begun-only = sym (works-nowhere ms with_row with_begin (length rows) begun-whole.store.kept begun-going) ∙ ap objects_of_row (last-row rows (begun_by w))

  pub begun-count : opened + 1 ≡ count_open with_row
  begun-count = ap (λ n. n + 1) may.exact ∙ sym (count-more rows (begun_by w))

  pub begun-long : length with_begin ≡ length H + 1
  begun-long = length-append H ((record { worker = w; kind = Begin (length rows) }) ∷ [])

  -- there is room for its call
  pub begun-free : is_history_full limits with_begin 1 ≡ false
  begun-free =
      let limited = may.limited in
      let long = begun-long in
      full-else with_begin (opened + 1) 1 limits (begun-count ∙ sym (counted (keeping ms with_row) with_begin begun-whole.store.kept)) (grind (arith, nat_tests, long, limited))

  -- and its begin
  pub begun-steps : (forgotten : ℕ) (s : Stored) → shown (keeping ms rows) H limits forgotten ≡ s → opened < limits.«open»
      → Steps s w command.Begin (Ok (begins_of s.history)) (shown (keeping ms with_row) with_begin limits forgotten)
  begun-steps forgotten s same few =
      let limited = may.limited in
      let number : length rows ≡ begins_of s.history = begin-number begins ms rows with_row H with_begin w (length rows) may.whole.store.kept refl refl refl ∙ ap (λ (z : Stored). begins_of z.history) same in
      subst (λ n. Steps s w command.Begin (Ok n) (shown (keeping ms with_row) with_begin limits forgotten)) number
      (begin-shown begins ms rows with_row H with_begin w (length rows) may.whole.store.kept refl refl refl types limits forgotten s same
      (begin-unrefused (objects_of ms) limits H opened (may.exact ∙ sym (counted (keeping ms rows) H may.whole.store.kept)) few (grind (arith, nat_tests, limited))))

  -- its call's answer
  pub begun-given : AnswersAsDefined → {x : ℕ} {call : CallOf} {m : Meaning} {k : ℕ} → slice_get ms x ≡ Some m → IsCall m.checked.file.table call → answer.Reply k ≡ answer_of m (length rows) call.first
      → IsGiven ms with_row with_begin (length rows) x call m (answer.Reply k)
  begun-given defined {x} {call} {m} {k} there is_call is =
      record {
        kept = begun-whole.store.kept;
        going = begun-open;
        there = there;
        is_call = is_call;
        defined = answer-defined (record { kept = begun-whole.store.kept; going = begun-open; there = there; is_call = is_call }) is defined;
      }

-- a call that is there is one of the object's
pub call-there : (ms : List Meaning) (rows : List (Option Row)) (H : List Event) (limits : Limits) (forgotten : ℕ) (s : Stored) (x : ℕ) (call : CallOf) → shown (keeping ms rows) H limits forgotten ≡ s → IsThere s x call
    → (m : Meaning) → slice_get ms x ≡ Some m → IsCall m.checked.file.table call
call-there ms rows H limits forgotten s x call same known m there =
    let known_at : slice_get (objects_of ms) x ≡ Some known.0 = subst (λ (z : Stored). slice_get (objects z) x ≡ Some known.0) (sym same) known.1 in
    subst (λ (z : Object). IsCall z.table call) (one-at (objects_of ms) x known.0 (object m) known_at (object-at ms x m there)) known.2

-- ---- all three events

module _ (quiet : QuietMoves) (op : OpMoves) (ends : EndMoves) (least : FirstOpIsLeast) (follow : AnswerMayFollow)
    (says : RowsSayWhoIsOpen) (counted : RowsAreCounted) (begins : BeginMoves) (stays : StaysKept) (room_after : RoomAfter) (types : TypesStay)
    {ms now : List Meaning} {rows : List (Option Row)} {H : List Event} {calls : List (List NamedCall)} {room more : ℕ} {limits : Limits} {many w opened : ℕ}
    (may : MayTransact ms rows H calls room more limits many w opened) {x k : ℕ} {call : CallOf} {m : Meaning}
    (given : IsGiven ms (rows ++ Some (begun_by w) ∷ []) (H ++ (record { worker = w; kind = Begin (length rows) }) ∷ []) (length rows) x call m (answer.Reply k))
    (done : IsCommittedAt (length rows) x k ms now) where
  abbrev pub all_events : List Event
  all_events = ((H ++ (record { worker = w; kind = Begin (length rows) }) ∷ []) ++ (record { worker = w; kind = Op k (length rows) x }) ∷ []) ++ (record { worker = w; kind = Commit (length rows) }) ∷ []

  reserved-behind : length (H ++ (record { worker = w; kind = Begin (length rows) }) ∷ []) + (opened + 1) + 1 ≤ more
  reserved-behind =
      let reserved = may.reserved in
      let long = begun-long says counted begins stays room_after types may in
      omega (arith, reserved, long)

  fewer-open : count_open (rows ++ None ∷ []) + 1 ≡ count_open (rows ++ Some (begun_by w) ∷ [])
  fewer-open = ap (λ n. n + 1) (count-none rows) ∙ sym (count-more rows (begun_by w))

  pub transacted-whole : IsWholeStore now calls (rows ++ None ∷ []) all_events more limits many
  transacted-whole =
      only-whole quiet op ends says types stays room_after counted least follow given calls more more limits (begun-whole says counted begins stays room_after types may) w (opened + 1)
      (begun-going says counted begins stays room_after types may) (begun-only says counted begins stays room_after types may) done (last-gone rows (begun_by w))
      (begun-free says counted begins stays room_after types may) all_events refl (begun-count says counted begins stays room_after types may) may.fits reserved-behind fewer-open

  -- as callers see them
  pub transacted-is : opened < limits.«open» → (forgotten : ℕ) (s : Stored) → shown (keeping ms rows) H limits forgotten ≡ s
      → IsTransacted s w x call.first k (shown (keeping now (rows ++ None ∷ [])) all_events limits forgotten)
  transacted-is few forgotten s same =
      let limited = may.limited in
      let counts : opened ≡ open_count (summary H) = may.exact ∙ sym (counted (keeping ms rows) H may.whole.store.kept) in
      let number : length rows ≡ begins_of s.history =
      begin-number begins ms rows (rows ++ Some (begun_by w) ∷ []) H (H ++ (record { worker = w; kind = Begin (length rows) }) ∷ []) w (length rows) may.whole.store.kept refl refl refl
      ∙ ap (λ (z : Stored). begins_of z.history) same in
      let begun = shown (keeping ms (rows ++ Some (begun_by w) ∷ [])) (H ++ (record { worker = w; kind = Begin (length rows) }) ∷ []) limits forgotten in
      let called =
      shown (keeping (set ms x (applied m (length rows) k))
      (placed ms (rows ++ Some (begun_by w) ∷ []) (H ++ (record { worker = w; kind = Begin (length rows) }) ∷ []) (length rows) x given.kept (begun-going says counted begins stays room_after types may)
      (begun-only says counted begins stays room_after types may)))
      ((H ++ (record { worker = w; kind = Begin (length rows) }) ∷ []) ++ (record { worker = w; kind = Op k (length rows) x }) ∷ []) limits forgotten in
      record {
        few = subst (λ (z : Stored). nat_le z.limits.«open» (open_count (summary z.history)) ≡ false) same (grind (arith, nat_tests, few, counts));
        room = subst (λ (z : Stored). is_history_full z.limits z.history 3 ≡ false) same (full-else H opened 3 limits counts (grind (arith, nat_tests, limited)));
        begun = begun;
        began = begun-steps says counted begins stays room_after types may forgotten s same few;
        called = called;
        answers =
            subst (λ n. AnswersCall begun w n x call.first (Ok (answer.Reply k)) called) number
            (only-answers quiet op ends says types stays room_after counted least follow given calls more more limits (begun-whole says counted begins stays room_after types may) w (opened + 1)
            (begun-going says counted begins stays room_after types may) (begun-only says counted begins stays room_after types may) done (last-gone rows (begun_by w))
            (begun-free says counted begins stays room_after types may) forgotten begun refl);
        commits =
            subst (λ n. shown (keeping now (rows ++ None ∷ [])) all_events limits forgotten ≡ stored_after called w (command.Commit n)) number
            (only-commits quiet op ends says types stays room_after counted least follow given calls more more limits (begun-whole says counted begins stays room_after types may) w (opened + 1)
            (begun-going says counted begins stays room_after types may) (begun-only says counted begins stays room_after types may) done (last-gone rows (begun_by w))
            (begun-free says counted begins stays room_after types may) all_events refl (begun-count says counted begins stays room_after types may) may.fits reserved-behind forgotten);
      }

-- the events of a whole transaction are the last
pub whole-last : (past K now after : List Event) (w t u y x k : ℕ)
    → after ≡ ((now ++ (record { worker = w; kind = Begin t }) ∷ []) ++ (record { worker = w; kind = Op k t y }) ∷ []) ++ (record { worker = w; kind = Commit t }) ∷ [] → now ≡ K → t ≡ u → y ≡ x
    → past ++ after ≡ (((past ++ K) ++ (record { worker = w; kind = Begin u }) ∷ []) ++ (record { worker = w; kind = Op k u x }) ∷ []) ++ (record { worker = w; kind = Commit u }) ∷ []
whole-last past K now after w t u y x k appends same number here =
    let b : ℕ → Event = λ n. record { worker = w; kind = Begin n } in
    let o : ℕ → ℕ → Event = λ n z. record { worker = w; kind = Op k n z } in
    let e : ℕ → Event = λ n. record { worker = w; kind = Commit n } in
    let is : after ≡ ((K ++ b u ∷ []) ++ o u x ∷ []) ++ e u ∷ [] =
    appends ∙ ap (λ L. ((L ++ b t ∷ []) ++ o t y ∷ []) ++ e t ∷ []) same ∙ ap (λ n. ((K ++ b n ∷ []) ++ o n y ∷ []) ++ e n ∷ []) number ∙ ap (λ z. ((K ++ b u ∷ []) ++ o u z ∷ []) ++ e u ∷ []) here in
    past-more past ((K ++ b u ∷ []) ++ o u x ∷ []) after (e u) is
    ∙ ap (λ L. L ++ e u ∷ []) (past-more past (K ++ b u ∷ []) ((K ++ b u ∷ []) ++ o u x ∷ []) (o u x) refl ∙ ap (λ L. L ++ o u x ∷ []) (past-more past K (K ++ b u ∷ []) (b u) refl))

-- one of them is a commit
pub whole-counted : (H after : List Event) (w t x k n : ℕ)
    → after ≡ ((H ++ (record { worker = w; kind = Begin t }) ∷ []) ++ (record { worker = w; kind = Op k t x }) ∷ []) ++ (record { worker = w; kind = Commit t }) ∷ [] → n ≡ length (commits H)
    → n + 1 ≡ length (commits after)
whole-counted H after w t x k n is counted =
    let b : Event = record { worker = w; kind = Begin t } in
    let o : Event = record { worker = w; kind = Op k t x } in
    let e : Event = record { worker = w; kind = Commit t } in
    counted-on ((H ++ b ∷ []) ++ o ∷ []) after e n is (not-counted (H ++ b ∷ []) ((H ++ b ∷ []) ++ o ∷ []) o n refl (not-counted H (H ++ b ∷ []) b n refl counted refl) refl)

-- ---- a call that is found

module _ (s called : Stored) (w t x c : ℕ) (o : Object) (there : slice_get (objects s) x ≡ Some o) (going : is_open (summary s.history) t ≡ true) where
  -- its command was made
  pub answers-step : (name : List ℕ) → call_at (slice_get (objects s) x) name ≡ Some c → (r : Result Answer Refusal) → AnswersCall s w t x c r called → MayStep s w (Call t x name) r called
  answers-step name named (Ok a) comes =
      inl (accepted-steps Answer s w (Call t x name) a (as_event t x c a) called (with-room s called w t x c name o there going named comes.0)
      (its-event s called w t x c name o there going named ∙ comes.1) comes.2)
  answers-step name named (Err r) comes =
      elim comes.1 [
        | inl full ↦
            subst (λ (z : Stored). MayStep {T = Answer} s w (Call t x name) (Err r) z) (sym comes.0)
            (inl (refused-steps Answer s w (Call t x name) r (without-room s called w t x c name o there going named full.0 ∙ ap Some (sym full.1))))
        | inr memory ↦ inr (with-room s called w t x c name o there going named memory.0, ap Err memory.1, comes.0)
      ]

  -- and noted
  pub answers-noted : (r : Result Answer Refusal) → AnswersCall s w t x c r called → NotesAnswer s w t x c r called
  answers-noted (Ok a) comes = comes.2
  answers-noted (Err r) comes = tt

-- ---- by its name, or its number

pub named-transacts : (s new : Stored) (w x c : ℕ) (name : List ℕ) (r : Option ℕ) → call_at (slice_get (objects s) x) name ≡ Some c → TransactsCall s w x c r new → TransactsNamed s w x name r new
named-transacts s new w x c name None named did = did
named-transacts s new w x c name (Some k) named did = (c, named, did)

pub numbered-transacts : (s new : Stored) (w x c : ℕ) (name : List ℕ) (r : Option ℕ) → call_at (slice_get (objects s) x) name ≡ Some c → TransactsCall s w x c r new → TransactsNumbered s w x c r new
numbered-transacts s new w x c name None named did = did
numbered-transacts s new w x c name (Some k) named did = (name, named, did)
