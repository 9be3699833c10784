-- A call at an object: its answer, and what that changes.
use Rattle.store_limits.specs.declared.limits.Limits.{Limits}
use Rattle.std.proofs.Common.{◌≡◌, ℕ, ◌+◌, ◌<◌, ◌≤◌, Bool, true, false, not, nat_le, List, [], ◌∷◌, ◌++◌, length, map, set, get_or, Option, Some, Ok, Err, slice_get, refl, sym, ap, subst, ◌∙◌, inl, inr, arith}
use Rattle.std.specs.Option.{option_map}
use Rattle.std.proofs.lemmas.Bool.Decides.{nat_tests}
use Rattle.std.proofs.lemmas.List.{length-map}
use Rattle.std.proofs.lemmas.Option.{same_Some, slice_get_within}
use Rattle.type_table.proofs.Elements.{element_at}
use Rattle.type_table.specs.Operation.{place_of}
use Rattle.type_table.specs.Table.{call_of}
use Rattle.object_trait.specs.Object.{Object, object_of}
use Rattle.object_trait.specs.Meaning.{Meaning, object}
use Rattle.object_trait.specs.Steps.{MayApply}
use Rattle.object_trait.specs.declared.event.Event.{Event}
use Rattle.object_trait.specs.declared.event.EventKind.{EventKind}
use Rattle.serial_order.specs.History.{summary, is_open}
use Rattle.serial_order.specs.Machine.{IsFirstOfCall, MayFollow}
use Rattle.serial_order.specs.Answer.{event_of_call}
use Rattle.serial_order.specs.Replay.{open_count, is_history_full, call_event}
use Rattle.serial_order.specs.After.{LogsAreCounted}
use Rattle.serial_order.specs.Laws.{FirstOpIsLeast, AnswerMayFollow, MachineMayApply}
use Rattle.serial_order.specs.declared.refusal.Refusal.TheVariants.{HistoryFull, NoMemory}
use Rattle.object_calls.specs.Calls.{IsCall}
use Rattle.object_calls.specs.declared.call.Call.{Call}
use Rattle.object_calls.specs.declared.call.NamedCall.{NamedCall}
use Rattle.object_calls.specs.Answers.{answer_of}
use Rattle.object_calls.specs.declared.answer.Answer.{Answer}
use Rattle.object_calls.specs.declared.answer.Answer.TheVariants as answer
use Rattle.open_transactions.specs.Transactions as table
use Rattle.open_transactions.specs.Transactions.{Row, row, pushed, count_open}
use Rattle.store_laws.specs.Stored.{Stored, objects, types_of}
use Rattle.store_laws.specs.Kept.{keeping, objects_of, IsKept}
use Rattle.store_laws.specs.Moves.{Moves, StaysKept}
use Rattle.store_laws.specs.Before.{RowsSayWhoIsOpen, RowsAreCounted}
use Rattle.store_laws.specs.Words.{as_event, AnswersAsDefined}
use Rattle.store_laws.specs.Events.{room_taken, QuietMoves, OpMoves, TypesStay, RoomAfter}
use Rattle.store_laws.proofs.Objects.{object-at}
use Rattle.store.specs.Calls.{AnswersCall}
use Rattle.store.specs.Executed.{ExecutesAnswer}
use Rattle.store.specs.Whole.{IsWholeStore}
use Rattle.store.proofs.Pasts.{past-test}
use Rattle.store.proofs.Stored.{stored, shown, event-whole}
use Rattle.store.proofs.Begins.{full-then, full-else}
use Rattle.store.proofs.Opens.{some-of, open-alike}
use Rattle.store.proofs.Executed.{seen-at}

-- ---- the call

-- at one place there is one thing
pub one-at : {A : Type 0} (xs : List A) (x : ℕ) (a b : A) → slice_get xs x ≡ Some a → slice_get xs x ≡ Some b → a ≡ b
one-at xs x a b first second = cc

-- what the caller of a call at x knows
abbrev pub IsThere : Stored → ℕ → Call → Type 0
IsThere s x call = (o : Object) × (slice_get (objects s) x ≡ Some o) × IsCall o.table call

-- an open transaction's call at the object of this meaning
pub record IsCalled (ms : List Meaning) (rows : List (Option Row)) (H : List Event) (t x : ℕ) (call : Call) (m : Meaning) : Type 0 where
  pub kept : IsKept (keeping ms rows) H
  pub going : is_open (summary H) t ≡ true
  pub there : slice_get ms x ≡ Some m
  pub is_call : IsCall m.checked.file.table call

-- and its answer, whose event the history defines
pub record IsGiven (ms : List Meaning) (rows : List (Option Row)) (H : List Event) (t x : ℕ) (call : Call) (m : Meaning) (a : Answer) : Type 0 where
  pub kept : IsKept (keeping ms rows) H
  pub going : is_open (summary H) t ≡ true
  pub there : slice_get ms x ≡ Some m
  pub is_call : IsCall m.checked.file.table call
  pub defined : call_event (slice_get (objects_of ms) x) (summary H) x t (Some call.first) ≡ Some (as_event t x call.first a)

module _ (ms : List Meaning) (rows : List (Option Row)) (H : List Event) (limits : Limits) (forgotten : ℕ) (s : Stored) (x : ℕ) (call : Call)
    (same : shown (keeping ms rows) H limits forgotten ≡ s) (known : IsThere s x call) where
  -- the object that the caller knows
  known-at : slice_get (objects_of ms) x ≡ Some known.0
  known-at = subst (λ (z : Stored). slice_get (objects z) x ≡ Some known.0) (sym same) known.1

  -- is there
  pub called-inside : (n : ℕ) → length ms ≡ n → x < n
  called-inside n many =
      subst (λ k. x < k) (length-map (types_of ms) object_of ∙ length-map ms (λ (m : Meaning). m.checked) ∙ many) (slice_get_within (objects_of ms) x known.0 known-at)

  -- and has this call
  pub called-at : (t : ℕ) (m : Meaning) → IsKept (keeping ms rows) H → is_open (summary s.history) t ≡ true
      → slice_get ms x ≡ Some m → IsCalled ms rows H t x call m
  called-at t m kept going there =
      record {
        kept = kept;
        going = subst (λ (z : Stored). is_open (summary z.history) t ≡ true) (sym same) going;
        there = there;
        is_call = subst (λ (z : Object). IsCall z.table call) (one-at (objects_of ms) x known.0 (object m) known-at (object-at ms x m there)) known.2;
      }

  -- whose answer is given
  pub given-at : (t : ℕ) (a : Answer) (m : Meaning) → IsKept (keeping ms rows) H → is_open (summary s.history) t ≡ true → slice_get ms x ≡ Some m
      → call_event (slice_get (objects s) x) (summary s.history) x t (Some call.first) ≡ Some (as_event t x call.first a) → IsGiven ms rows H t x call m a
  given-at t a m kept going there defined =
      record {
        kept = kept;
        going = subst (λ (z : Stored). is_open (summary z.history) t ≡ true) (sym same) going;
        there = there;
        is_call = subst (λ (z : Object). IsCall z.table call) (one-at (objects_of ms) x known.0 (object m) known-at (object-at ms x m there)) known.2;
        defined = subst (λ (z : Stored). call_event (slice_get (objects z) x) (summary z.history) x t (Some call.first) ≡ Some (as_event t x call.first a)) (sym same) defined;
      }

  -- at the object that is there
  pub given : (t : ℕ) (a : Answer) → IsKept (keeping ms rows) H → is_open (summary s.history) t ≡ true
      → call_event (slice_get (objects s) x) (summary s.history) x t (Some call.first) ≡ Some (as_event t x call.first a) → (m : Meaning) × IsGiven ms rows H t x call m a
  given t a kept going defined =
      let found = element_at ms x (called-inside (length ms) refl) in
      (found.0, given-at t a found.0 kept going found.1 defined)

-- so for objects that mean it
pub called-of : {A : Type 0} (meaning : A → Meaning) (objects : List A) (rows : List (Option Row)) (H : List Event) (limits : Limits) (forgotten : ℕ) (s : Stored) (t x : ℕ) (call : Call)
    (o : A) → shown (keeping (map meaning objects) rows) H limits forgotten ≡ s → IsKept (keeping (map meaning objects) rows) H
    → is_open (summary s.history) t ≡ true → IsThere s x call → o ≡ get_or objects x o
    → IsCalled (map meaning objects) rows H t x call (meaning o)
called-of meaning objects rows H limits forgotten s t x call o same kept going known is_object =
    let ms = map meaning objects in
    called-at ms rows H limits forgotten s x call same known t (meaning o) kept going
    (seen-at meaning objects x o (called-inside ms rows H limits forgotten s x call same known (length objects) (length-map objects meaning)) is_object)

-- whose transaction has a row
pub still-open : RowsSayWhoIsOpen → (ms : List Meaning) (rows : List (Option Row)) (H : List Event) (limits : Limits) (forgotten : ℕ) (s : Stored) (t : ℕ)
    → shown (keeping ms rows) H limits forgotten ≡ s → IsKept (keeping ms rows) H → is_open (summary s.history) t ≡ true → table.has_row rows t ≡ true
still-open says ms rows H limits forgotten s t same kept going =
    sym (open-alike says ms rows H t kept) ∙ subst (λ (z : Stored). is_open (summary z.history) t ≡ true) (sym same) going

-- and of the least of its operations
call-least : FirstOpIsLeast → (o : Object) (call : Call) → IsCall o.table call → IsFirstOfCall o call.first
call-least least o call is = least o (call_of o.table call.first) call.first is.least

-- ---- room for its event

-- what the test of room for so many events said
pub room-tested_for : RowsAreCounted → (ms : List Meaning) (rows : List (Option Row)) (past Hm K : List Event) (forgotten opened further : ℕ) (limits : Limits) (has said : Bool)
    → IsKept (keeping ms rows) (past ++ Hm) → opened ≡ count_open rows → forgotten ≡ length past → K ≡ Hm → has ≡ nat_le (forgotten + length K + opened + further) limits.events → has ≡ said
    → is_history_full limits (past ++ Hm) further ≡ not said
room-tested_for counted ms rows past Hm K forgotten opened further limits has said kept exact many same test says =
    let H = past ++ Hm in
    let counts : opened ≡ open_count (summary H) = exact ∙ sym (counted (keeping ms rows) H kept) in
    let told : nat_le (length H + opened + further) limits.events ≡ said = past-test past K Hm forgotten opened further limits.events has said many test same says in
    elim said as (λ b. nat_le (length H + opened + further) limits.events ≡ b → is_history_full limits H further ≡ not b) [
      | true ↦ full-else H opened further limits counts
      | false ↦ full-then H opened further limits counts
    ] told

-- and of that for one
pub room-tested : RowsAreCounted → (ms : List Meaning) (rows : List (Option Row)) (past Hm K : List Event) (forgotten opened : ℕ) (limits : Limits) (has said : Bool)
    → IsKept (keeping ms rows) (past ++ Hm) → opened ≡ count_open rows → forgotten ≡ length past → K ≡ Hm → has ≡ nat_le (forgotten + length K + opened + 1) limits.events → has ≡ said
    → is_history_full limits (past ++ Hm) 1 ≡ not said
room-tested counted ms rows past Hm K forgotten opened limits has said = room-tested_for counted ms rows past Hm K forgotten opened 1 limits has said

-- and so of the store as its callers see it
pub room-told : RowsAreCounted → (ms : List Meaning) (rows : List (Option Row)) (past Hm K : List Event) (forgotten opened further : ℕ) (limits : Limits) (has said : Bool) (s : Stored)
    → shown (keeping ms rows) (past ++ Hm) limits forgotten ≡ s
    → IsKept (keeping ms rows) (past ++ Hm) → opened ≡ count_open rows → forgotten ≡ length past → K ≡ Hm → has ≡ nat_le (forgotten + length K + opened + further) limits.events → has ≡ said
    → is_history_full s.limits s.history further ≡ not said
room-told counted ms rows past Hm K forgotten opened further limits has said s is kept exact many same test says =
    subst (λ (z : Stored). is_history_full z.limits z.history further ≡ not said) is
    (room-tested_for counted ms rows past Hm K forgotten opened further limits has said kept exact many same test says)

-- where it isn't full there is room
pub room-left : (H : List Event) (limits : Limits) → is_history_full limits H 1 ≡ false → length H + open_count (summary H) + 1 ≤ limits.events
room-left H limits room = grind (arith, nat_tests, room)

-- ---- its answer

-- the event that the history defines is that of the object's answer
pub event-defined : AnswersAsDefined → (ms : List Meaning) (rows : List (Option Row)) (H : List Event) (t x c : ℕ) (m : Meaning) → IsKept (keeping ms rows) H
    → is_open (summary H) t ≡ true → slice_get ms x ≡ Some m → call_event (slice_get (objects_of ms) x) (summary H) x t (Some c) ≡ Some (as_event t x c (answer_of m t c))
event-defined defined ms rows H t x c m kept going there =
    ap (λ o. call_event o (summary H) x t (Some c)) (object-at ms x m there)
    ∙ ap Some (sym (defined (objects_of ms) m x H t c kept.run (kept.objects x m there).represents going))

-- which a call is given
pub answer-defined : {ms : List Meaning} {rows : List (Option Row)} {H : List Event} {t x : ℕ} {call : Call} {m : Meaning} {a : Answer}
    → IsCalled ms rows H t x call m → a ≡ answer_of m t call.first → AnswersAsDefined
    → call_event (slice_get (objects_of ms) x) (summary H) x t (Some call.first) ≡ Some (as_event t x call.first a)
answer-defined {ms} {rows} {H} {t} {x} {call} {m} called is_answer defined =
    event-defined defined ms rows H t x call.first m called.kept called.going called.there ∙ ap (λ a. Some (as_event t x call.first a)) (sym is_answer)

module _ {ms : List Meaning} {rows : List (Option Row)} {H : List Event} {t x : ℕ} {call : Call} {m : Meaning} {a : Answer}
    (given : IsGiven ms rows H t x call m a) where
  answer-event : as_event t x call.first a ≡ event_of_call (object m) (summary H) x t call.first
  answer-event =
      same_Some (as_event t x call.first a) (event_of_call (object m) (summary H) x t call.first)
      (sym given.defined ∙ ap (λ o. call_event o (summary H) x t (Some call.first)) (object-at ms x m given.there))

  -- its event may follow
  pub answer-follows : FirstOpIsLeast → AnswerMayFollow → (w : ℕ) → MayFollow (objects_of ms) H (record { worker = w; kind = as_event t x call.first a })
  answer-follows least follow w =
      subst (λ happened. MayFollow (objects_of ms) H (record { worker = w; kind = happened })) (sym answer-event)
      (follow (objects_of ms) H x (object m) w t call.first (object-at ms x m given.there) given.going (call-least least (object m) call given.is_call))

  -- so that a reply may be executed
  pub reply-may : FirstOpIsLeast → AnswerMayFollow → MachineMayApply → LogsAreCounted → (k : ℕ) (limits : Limits) → a ≡ answer.Reply k → is_history_full limits H 1 ≡ false → limits.events ≤ 4294967295
      → MayApply m t k
  reply-may least follow machine counted k limits replies room fits =
      let represents = (given.kept.objects x m given.there).represents in
      let log = (counted m x H represents).short in
      let limited = room-left H limits room in
      machine (objects_of ms) H 0 t x k m given.kept.run
      (subst (λ b. MayFollow (objects_of ms) H (record { worker = 0; kind = as_event t x call.first b })) replies (answer-follows least follow 0))
      (object-at ms x m given.there) represents (omega (arith, log, limited, fits))

-- ---- what it changes

-- it takes room for one event
answer-takes : (t x c : ℕ) (a : Answer) → room_taken (as_event t x c a) ≡ 1
answer-takes t x c (answer.Reply k) = refl
answer-takes t x c (answer.Busy u) = refl
answer-takes t x c answer.None = refl

-- its event is the last
pub answer-last : (H K after : List Event) (w t x y c : ℕ) (a : Answer) (happened : EventKind) → after ≡ K ++ (record { worker = w; kind = happened }) ∷ [] → K ≡ H
    → happened ≡ as_event t y c a → y ≡ x → after ≡ H ++ (record { worker = w; kind = as_event t x c a }) ∷ []
answer-last H K after w t x y c a happened appends same is here =
    appends
    ∙ ap (λ L. L ++ (record { worker = w; kind = happened }) ∷ []) same
    ∙ ap (λ k. H ++ (record { worker = w; kind = k }) ∷ []) (is ∙ ap (λ z. as_event t z c a) here)

-- which is what its event does
pub answer-moved : QuietMoves → OpMoves → (ms now : List Meaning) (rows left : List (Option Row)) (H : List Event) (w t x c : ℕ) (a : Answer)
    → IsKept (keeping ms rows) H → table.has_row rows t ≡ true → ExecutesAnswer a t x ms now rows left
    → Moves (keeping ms rows) (keeping now left) H (record { worker = w; kind = as_event t x c a })
answer-moved quiet op ms now rows left H w t x c (answer.Reply k) kept going done =
    let found = some-of (row rows t) going in
    op (keeping ms rows) (keeping now left) H w t x k found.0 done.m kept found.1 done.there done.object
    (done.row ∙ ap (λ r. set rows t (option_map (pushed x) r)) found.1)
answer-moved quiet op ms now rows left H w t x c (answer.Busy u) kept going done =
    (quiet (keeping ms rows) (keeping now left) H w t x (place_of c) kept done.0 done.1).0 u
answer-moved quiet op ms now rows left H w t x c answer.None kept going done =
    (quiet (keeping ms rows) (keeping now left) H w t x (place_of c) kept done.0 done.1).1

module _ (quiet : QuietMoves) (op : OpMoves) (types : TypesStay) (ms now : List Meaning) (rows left : List (Option Row)) (H after : List Event)
    (w t x c : ℕ) (a : Answer) (kept : IsKept (keeping ms rows) H) (going : table.has_row rows t ≡ true) (done : ExecutesAnswer a t x ms now rows left)
    (appended : after ≡ H ++ (record { worker = w; kind = as_event t x c a }) ∷ []) where
  -- what is kept
  pub answer-whole : StaysKept → RoomAfter → RowsAreCounted → (calls : List (List NamedCall)) (room more : ℕ) (limits : Limits) (opened : ℕ) {places : ℕ} → IsWholeStore ms calls rows H room limits places
      → MayFollow (objects_of ms) H (record { worker = w; kind = as_event t x c a }) → opened ≡ count_open rows → limits.events ≤ 4294967295
      → length H + opened + 1 ≤ more → is_history_full limits H 1 ≡ false → IsWholeStore now calls left after more limits places
  answer-whole stays room_after counted calls room more limits opened whole may exact fits reserved free =
      let takes_one = answer-takes t x c a in
      let counts : open_count (summary H) ≡ count_open rows = counted (keeping ms rows) H kept in
      let limited = room-left H limits free in
      event-whole stays room_after types ms now calls rows left H after (record { worker = w; kind = as_event t x c a }) room more limits whole may
      (answer-moved quiet op ms now rows left H w t x c a kept going done) appended (omega (arith, limited, fits))
      (omega (arith, reserved, counts, exact, takes_one)) (omega (arith, limited, takes_one)) (omega (arith, whole.few_open, takes_one))

  -- what comes of it
  pub answer-comes : (limits : Limits) (forgotten : ℕ) (s : Stored) → shown (keeping ms rows) H limits forgotten ≡ s → is_history_full limits H 1 ≡ false
      → call_event (slice_get (objects_of ms) x) (summary H) x t (Some c) ≡ Some (as_event t x c a) → AnswersCall s w t x c (Ok a) (shown (keeping now left) after limits forgotten)
  answer-comes limits forgotten s same room defined =
      let same_types : types_of now ≡ types_of ms =
      types (keeping ms rows) (keeping now left) H (record { worker = w; kind = as_event t x c a })
      (answer-moved quiet op ms now rows left H w t x c a kept going done) in
      subst (λ (z : Stored). AnswersCall z w t x c (Ok a) (shown (keeping now left) after limits forgotten)) same
      (room, defined, ap (λ ts. stored ts after limits forgotten) same_types ∙ ap (λ K. stored (types_of ms) K limits forgotten) appended)

-- ---- where nothing comes of it

module _ (ms : List Meaning) (rows : List (Option Row)) (H : List Event) (limits : Limits) (forgotten : ℕ) (s : Stored) (w t x c : ℕ)
    (same : shown (keeping ms rows) H limits forgotten ≡ s) where
  -- there is no room for the event
  pub full-comes : is_history_full limits H 1 ≡ true → AnswersCall s w t x c (Err HistoryFull) s
  full-comes full = (refl, inl (subst (λ (z : Stored). is_history_full z.limits z.history 1 ≡ true) same full, refl))

  -- memory was refused
  pub memory_refused-comes : (now : List Meaning) (left : List (Option Row)) (after : List Event) → now ≡ ms → after ≡ H → is_history_full limits H 1 ≡ false
      → AnswersCall s w t x c (Err NoMemory) (shown (keeping now left) after limits forgotten)
  memory_refused-comes now left after unchanged stays room = (
    ap (λ ns. stored (types_of ns) after limits forgotten) unchanged ∙ ap (λ K. stored (types_of ms) K limits forgotten) stays ∙ same,
    inr (subst (λ (z : Stored). is_history_full z.limits z.history 1 ≡ false) same room, refl),
  )
