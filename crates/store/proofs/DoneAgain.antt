-- A run that a store does again, one event after another.
use Rattle.store_limits.specs.declared.limits.Limits.{Limits}
use Rattle.std.proofs.Common.{◌≡◌, ℕ, ◌+◌, ◌<◌, ◌≤◌, true, false, List, [], ◌∷◌, ◌++◌, length, take, drop, get_or, Option, Some, None, slice_get, refl, sym, ap, subst, ◌∙◌, append_assoc, append-nil, length-append, arith}
use Rattle.std.specs.List.{AllByRecursion}
use Rattle.std.proofs.lemmas.Bool.{false≢true}
use Rattle.std.proofs.lemmas.Bool.Decides.{nat_tests}
use Rattle.std.proofs.lemmas.List.{take-append-drop, drop_more, take_more}
use Rattle.std.proofs.lemmas.Option.{slice_get_within}
use Rattle.object_trait.specs.Object.{Object}
use Rattle.object_trait.specs.Meaning.{Meaning}
use Rattle.object_trait.specs.Steps.{MayApply}
use Rattle.object_trait.specs.declared.event.Event.{Event}
use Rattle.object_trait.specs.declared.event.EventKind.{EventKind}
use Rattle.object_trait.specs.declared.event.EventKind.TheVariants as kind
use Rattle.object_trait.specs.declared.event.EventKind.TheVariants.{Begin, Op, Busy, Commit, Abort, Rollback}
use Rattle.serial_order.proofs.Pairs.{each-rest}
use Rattle.serial_order.specs.History.{summary}
use Rattle.serial_order.specs.After.{LogsAreCounted}
use Rattle.serial_order.specs.Laws.{MachineMayApply}
use Rattle.serial_order.specs.Machine.{IsRun, MayFollow}
use Rattle.serial_order.specs.Replay.{open_count, is_history_full}
use Rattle.serial_order.specs.declared.command.Command.TheVariants as command
use Rattle.committed_states.proofs.Fronts.{runs-front, runs-rest}
use Rattle.carried_runs.specs.Redo.{begins_or_works}
use Rattle.carried_runs.proofs.Repeating.{meaning-there}
use Rattle.object_calls.specs.declared.answer.Answer.TheVariants as answer
use Rattle.open_transactions.specs.Transactions as table
use Rattle.open_transactions.specs.Transactions.{Row}
use Rattle.store_laws.specs.Stored.{Stored, objects, types_of, refusal_of, stored_after}
use Rattle.store_laws.specs.Kept.{keeping, objects_of, IsKept}
use Rattle.store_laws.specs.Before.{RowsSayWhoIsOpen}
use Rattle.store_laws.specs.Events.{room_taken, OpMoves, QuietMoves, RoomAfter, TypesStay}
use Rattle.store_laws.proofs.Objects.{object-at}
use Rattle.store.specs.Executed.{IsExecuted}
use Rattle.store.proofs.Answered.{answer-moved, room-left}
use Rattle.store.proofs.Begins.{begin-unrefused}
use Rattle.store.proofs.CarriedEpochs.{MayDoAgain}
use Rattle.store.proofs.Opens.{open-alike}
use Rattle.store.proofs.Steps.{accepted-steps}
use Rattle.store.proofs.Stored.{stored, shown}

-- ---- one event

-- what `redo` asks for
pub record MayBeRedone (s : Stored) (e : Event) : Type 0 where
  pub run : IsRun (objects s) (s.history ++ e ∷ [])
  pub works : begins_or_works e.kind ≡ true
  pub room : length s.history + open_count (summary s.history) + room_taken e.kind ≤ s.limits.events
  pub few : open_count (summary (s.history ++ e ∷ [])) ≤ s.limits.«open»

module _ (room_after : RoomAfter) (s : Stored) (e : Event) (may : MayBeRedone s e) where
  going : IsRun (objects s) s.history
  going = runs-front (objects s) [] s.history (e ∷ []) may.run

  pub redo-follows : MayFollow (objects s) s.history e
  redo-follows = (runs-rest (objects s) [] s.history (e ∷ []) may.run).0

  more-open : open_count (summary (s.history ++ e ∷ [])) + 1 ≡ open_count (summary s.history) + room_taken e.kind
  more-open = let after = room_after (objects s) s.history e going redo-follows in omega (arith, after, length-append s.history (e ∷ []))

  -- a begin isn't refused
  pub begin-again : (t : ℕ) → e.kind ≡ Begin t → refusal_of s command.Begin ≡ None
  begin-again t is =
      let taken : room_taken e.kind ≡ 2 = ap room_taken is in
      let few = may.few in
      let room = may.room in
      let opened = more-open in
      let roomy : length s.history + open_count (summary s.history) + 2 ≤ s.limits.events = omega (arith, room, taken) in
      begin-unrefused (objects s) s.limits s.history (open_count (summary s.history)) refl (omega (arith, few, opened, taken)) (grind (arith, nat_tests, roomy))

  -- its number is the next
  pub begin-number : (t : ℕ) → e.kind ≡ Begin t → t ≡ (summary s.history).begun
  begin-number t is = by e.kind is redo-follows
    where
      by : (happened : EventKind) → happened ≡ Begin t → MayFollow (objects s) s.history (record { worker = e.worker; kind = happened }) → t ≡ (summary s.history).begun
      by happened same h = rw same at h

  -- and it appends this event
  pub begin-appends : (t : ℕ) → e.kind ≡ Begin t → stored_after s e.worker command.Begin ≡ record s { history = s.history ++ e ∷ [] }
  begin-appends t is =
      let unrefused = begin-again t is in
      let same : e ≡ record { worker = e.worker; kind = Begin (summary s.history).begun } = ap (λ h. record { worker = e.worker; kind = h }) (is ∙ ap Begin (begin-number t is)) in
      sym (accepted-steps ℕ s e.worker command.Begin 0 (Begin (summary s.history).begun) (record s { history = s.history ++ e ∷ [] }) unrefused refl
      (ap (λ f. record s { history = s.history ++ f ∷ [] }) same)).1

  -- for an operation there is room
  pub operation-room : (k t x : ℕ) → e.kind ≡ Op k t x → is_history_full s.limits s.history 1 ≡ false
  operation-room k t x is =
      let taken : room_taken e.kind ≡ 1 = ap room_taken is in
      let room = may.room in
      let roomy : length s.history + open_count (summary s.history) + 1 ≤ s.limits.events = omega (arith, room, taken) in
      grind (arith, nat_tests, roomy)

  -- and it is this event
  pub operation-run : (k t x : ℕ) → e.kind ≡ Op k t x → IsRun (objects s) (s.history ++ (record { worker = e.worker; kind = Op k t x }) ∷ [])
  operation-run k t x is = subst (λ (f : Event). IsRun (objects s) (s.history ++ f ∷ [])) (ap (λ h. record { worker = e.worker; kind = h }) is) may.run

-- nothing else is done again
pub no-other : (k : EventKind) → begins_or_works k ≡ true → ((t : ℕ) → k ≡ Begin t → ⊥) → ((j t x : ℕ) → k ≡ Op j t x → ⊥) → ⊥
no-other (Begin t) works begins ops = begins t refl
no-other (Op k t x) works begins ops = ops k t x refl
no-other (Busy c t x u) works begins ops = false≢true works
no-other (kind.None t x c) works begins ops = false≢true works
no-other (Commit t) works begins ops = false≢true works
no-other (Abort t) works begins ops = false≢true works
no-other (Rollback t n) works begins ops = false≢true works

-- ---- an operation

module _ (ms : List Meaning) (rows : List (Option Row)) (H : List Event) (limits : Limits) (forgotten : ℕ) (s : Stored) (w t x k : ℕ) (kept : IsKept (keeping ms rows) H)
    (same : shown (keeping ms rows) H limits forgotten ≡ s) (run : IsRun (objects s) (s.history ++ (record { worker = w; kind = Op k t x }) ∷ [])) where
  pub op-follows : MayFollow (objects_of ms) H (record { worker = w; kind = Op k t x })
  op-follows =
      subst (λ (z : Stored). MayFollow (objects z) z.history (record { worker = w; kind = Op k t x })) (sym same)
      (runs-rest (objects s) [] s.history ((record { worker = w; kind = Op k t x }) ∷ []) run).0

  -- its object is there
  pub op-inside : (n : ℕ) → length ms ≡ n → x < n
  op-inside n many =
      let there = meaning-there ms (summary H) x t k op-follows.1 in
      subst (λ m. x < m) many (slice_get_within ms x there.0 there.1)

  -- its transaction has a row
  pub op-open : RowsSayWhoIsOpen → table.has_row rows t ≡ true
  op-open says = sym (open-alike says ms rows H t kept) ∙ op-follows.0

  -- and it may be executed there
  pub op-may : MachineMayApply → LogsAreCounted → is_history_full s.limits s.history 1 ≡ false → limits.events ≤ 4294967295 → (m : Meaning) → slice_get ms x ≡ Some m → MayApply m t k
  op-may applies counted room fits m there =
      let represents = (kept.objects x m there).represents in
      let log = (counted m x H represents).short in
      let limited = room-left H limits (subst (λ (z : Stored). is_history_full z.limits z.history 1 ≡ false) (sym same) room) in
      applies (objects_of ms) H w t x k m kept.run op-follows (object-at ms x m there) represents (omega (arith, log, limited, fits))

  -- callers see its event
  pub op-shown : QuietMoves → OpMoves → TypesStay → RowsSayWhoIsOpen → (now : List Meaning) (left : List (Option Row)) (after : List Event) → IsExecuted t x k ms now rows left
      → after ≡ H ++ (record { worker = w; kind = Op k t x }) ∷ []
      → shown (keeping now left) after limits forgotten ≡ record s { history = s.history ++ (record { worker = w; kind = Op k t x }) ∷ [] }
  op-shown quiet op types says now left after done appended =
      let same_types : types_of now ≡ types_of ms =
      types (keeping ms rows) (keeping now left) H (record { worker = w; kind = Op k t x }) (answer-moved quiet op ms now rows left H w t x 0 (answer.Reply k) kept (op-open says) done) in
      subst (λ (z : Stored). shown (keeping now left) after limits forgotten ≡ record z { history = z.history ++ (record { worker = w; kind = Op k t x }) ∷ [] }) same
      (ap (λ ts. stored ts after limits forgotten) same_types ∙ ap (λ K. stored (types_of ms) K limits forgotten) appended)

-- ---- all of them

-- the store after these events
abbrev pub with_history : Stored → List Event → Stored
with_history s H = record s { history = H }

-- each of them leaves as many open, or more
pub opens-more : RoomAfter → (os : List Object) (A B : List Event) → IsRun os (A ++ B) → AllByRecursion (λ e. begins_or_works e.kind ≡ true) B → open_count (summary A) ≤ open_count (summary (A ++ B))
opens-more room_after os A [] run works = let same = ap (λ K. open_count (summary K)) (append-nil A) in omega (arith, same)
opens-more room_after os A (e ∷ B) run works =
    let step = room_after os A e (runs-front os [] A (e ∷ B) run) (runs-rest os [] A (e ∷ B) run).0 in
    let rest = opens-more room_after os (A ++ e ∷ []) B (rw (← (append_assoc A (e ∷ []) B)) at run) works.1 in
    let same = ap (λ K. open_count (summary K)) (append_assoc A (e ∷ []) B) in
    let taken = takes e.kind works.0 in
    omega (arith, step, rest, same, taken, length-append A (e ∷ []))
  where
    takes : (k : EventKind) → begins_or_works k ≡ true → 1 ≤ room_taken k
    takes (Begin t) works = omega arith
    takes (Op k t x) works = omega arith
    takes (Busy c t x u) works = omega arith
    takes (kind.None t x c) works = omega arith
    takes (Commit t) works = absurd (false≢true works)
    takes (Abort t) works = absurd (false≢true works)
    takes (Rollback t n) works = omega arith

module _ (room_after : RoomAfter) (s : Stored) (events : List Event) (i : ℕ) (e : Event) (may : MayDoAgain s events) (inside : i < length events) (is : e ≡ get_or events i e) where
  longer : take (i + 1) events ≡ take i events ++ e ∷ []
  longer = take_more events i e inside ∙ ap (λ f. take i events ++ f ∷ []) (sym is)

  whole : events ≡ take i events ++ e ∷ drop (i + 1) events
  whole = sym (take-append-drop i events) ∙ ap (λ es. take i events ++ es) (drop_more events i e inside ∙ ap (λ f. f ∷ drop (i + 1) events) (sym is))

  split : events ≡ (take i events ++ e ∷ []) ++ drop (i + 1) events
  split = whole ∙ sym (append_assoc (take i events) (e ∷ []) (drop (i + 1) events))

  parts : IsRun (objects s) ((take i events ++ e ∷ []) ++ drop (i + 1) events)
  parts = subst (IsRun (objects s)) split may.run

  each : AllByRecursion (λ f. begins_or_works f.kind ≡ true) (e ∷ drop (i + 1) events)
  each = each-rest (λ f. begins_or_works f.kind ≡ true) (take i events) (e ∷ drop (i + 1) events) (subst (AllByRecursion (λ f. begins_or_works f.kind ≡ true)) whole may.works)

  -- the next one may be done
  pub may-redo-next : (now : Stored) → now ≡ with_history s (take i events) → MayBeRedone now e
  may-redo-next now so_far =
      let few = may.few in
      let room = may.room in
      let next = runs-front (objects s) [] (take i events ++ e ∷ []) (drop (i + 1) events) parts in
      let step = room_after (objects s) (take i events) e (runs-front (objects s) [] (take i events) (e ∷ []) next) (runs-rest (objects s) [] (take i events) (e ∷ []) next).0 in
      let more = opens-more room_after (objects s) (take i events ++ e ∷ []) (drop (i + 1) events) parts each.1 in
      let opened = ap (λ K. open_count (summary K)) split in
      let count = ap length split in
      subst (λ (z : Stored). MayBeRedone z e) (sym so_far) (record {
        run = next;
        works = each.0;
        room = omega (arith, step, more, opened, count, room, length-append (take i events ++ e ∷ []) (drop (i + 1) events));
        few = omega (arith, more, opened, few);
      })

  -- and then one more is done
  pub redone-next : (now next : Stored) → now ≡ with_history s (take i events) → next ≡ record now { history = now.history ++ e ∷ [] } → next ≡ with_history s (take (i + 1) events)
  redone-next now next so_far did = did ∙ ap (λ (z : Stored). record z { history = z.history ++ e ∷ [] }) so_far ∙ ap (with_history s) (sym longer)
