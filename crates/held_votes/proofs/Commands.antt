-- What commands, ends and attempts append that are of other transactions.
use Rattle.std.proofs.Common.{◌≡◌, ◌∙◌, ℕ, ◌<◌, Bool, true, false, not, ◌&&◌, cond, if◌then◌else◌, is_some, List, [], ◌∷◌, ◌++◌, filter, length, map, take, Option, Some, None, Result, inl, inr, refl, sym, ap, subst, append-nil, arith}
use Rattle.std.specs.Prelude.{◌==◌, slice_get}
use Rattle.std.specs.List.{AllByRecursion, range_with_len}
use Rattle.std.proofs.lemmas.Bool.Decides.{nat_tests}
use Rattle.type_table.specs.Least.{first_below}
use Rattle.type_table.proofs.Elements.{each-append, each-push, eqb-sym}
use Rattle.object_trait.specs.Object.{Object}
use Rattle.object_trait.specs.declared.event.Event.{Event}
use Rattle.object_trait.specs.declared.event.EventKind.{EventKind}
use Rattle.object_trait.specs.declared.event.EventKind.TheVariants as kind
use Rattle.serial_order.specs.Answer.{blocker, busy_with, event_of_first, is_free_reply, is_reply, refused}
use Rattle.serial_order.specs.History.{Summary, begins, is_open, summary}
use Rattle.serial_order.specs.Operations.{is_among}
use Rattle.serial_order.specs.Replay.{appended, call_at, call_event, event_of}
use Rattle.serial_order.specs.declared.command.Command.{Command}
use Rattle.serial_order.specs.declared.command.Command.TheVariants as command
use Rattle.serial_order.specs.declared.entry.Entry.{Entry}
use Rattle.serial_order.specs.declared.refusal.Refusal.{Refusal}
use Rattle.serial_order.proofs.Lists.{is_among-apart}
use Rattle.store_laws.specs.Stored.{MayStep, Steps, Stored, objects, refusal_of}
use Rattle.store.specs.Ends.{closing_abort, closing_but, is_other}
use Rattle.attempts.specs.declared.outcome.Attempt.{Attempt}
use Rattle.attempts.specs.declared.outcome.Attempt.TheVariants.{Done, Ended, NotBegun}
use Rattle.attempts.specs.declared.outcome.Ending.{Ending}
use Rattle.attempts.specs.declared.outcome.Ending.TheVariants as ending
use Rattle.attempts.specs.Commands.{CallAt}
use Rattle.attempts.specs.Answers.{AttemptAnswers, EndsSo, operation_events}
use Rattle.held_votes.proofs.OwnEvents.{AreBeside, concerns}

-- a store goes on by events that don't concern transaction n
abbrev pub GoesBeside : ℕ → Stored → Stored → Type 0
GoesBeside n old new = (es : List Event) × (new.history ≡ old.history ++ es) × AreBeside n es

pub stays-beside : (n : ℕ) (old new : Stored) → new ≡ old → GoesBeside n old new
stays-beside n old new same = ([], ap (λ (s : Stored). s.history) same ∙ sym (append-nil old.history), tt)

-- ---- a command

-- it isn't of transaction n
abbrev pub IsOfOthers : ℕ → Command → Type 0
IsOfOthers n command.Begin = Unit {0}
IsOfOthers n (command.Call t x name) = (t == n) ≡ false
IsOfOthers n (command.Commit t) = (t == n) ≡ false
IsOfOthers n (command.Abort t) = (t == n) ≡ false
IsOfOthers n (command.Rollback t m) = (t == n) ≡ false

-- what came of it, if anything, doesn't concern n
abbrev MayBeBeside : ℕ → Option EventKind → Type 0
MayBeBeside n None = Unit {0}
MayBeBeside n (Some happened) = concerns n happened ≡ false

busy-beside : (n : ℕ) (e : Option Entry) (t x c : ℕ) → concerns n (busy_with e t x c) ≡ false
busy-beside n None t x c = refl
busy-beside n (Some e) t x c = refl

refused-beside : (n : ℕ) (o : Object) (s : Summary) (x t c : ℕ) (first : Option ℕ) → concerns n (refused o s x t c first) ≡ false
refused-beside n o s x t c None = refl
refused-beside n o s x t c (Some k) = busy-beside n (blocker o s x t k) t x c

first-beside : (n : ℕ) (o : Object) (s : Summary) (x t c : ℕ) (first : Option ℕ) → (t == n) ≡ false → concerns n (event_of_first o s x t c first) ≡ false
first-beside n o s x t c (Some k) other = other
first-beside n o s x t c None other = refused-beside n o s x t c (first_below (length o.table.ops) (is_reply o s x t c))

call-beside : (n : ℕ) (o : Option Object) (s : Summary) (x t : ℕ) (c : Option ℕ) → (t == n) ≡ false → MayBeBeside n (call_event o s x t c)
call-beside n None s x t c other = tt
call-beside n (Some o) s x t None other = tt
call-beside n (Some o) s x t (Some c) other = first-beside n o s x t c (first_below (length o.table.ops) (is_free_reply o s x t c)) other

command-beside : (n : ℕ) (os : List Object) (s : Summary) (given : Command) → IsOfOthers n given → MayBeBeside n (event_of os s given)
command-beside n os s command.Begin other = refl
command-beside n os s (command.Call t x name) other = call-beside n (slice_get os x) s x t (call_at (slice_get os x) name) other
command-beside n os s (command.Commit t) other = other
command-beside n os s (command.Abort t) other = other
command-beside n os s (command.Rollback t m) other = other

-- the history after it
after-beside : (n : ℕ) (H : List Event) (r : Bool) (happened : Option EventKind) → MayBeBeside n happened → (es : List Event) × ((if r then H else appended H 0 happened) ≡ H ++ es) × AreBeside n es
after-beside n H true happened beside = ([], sym (append-nil H), tt)
after-beside n H false None beside = ([], sym (append-nil H), tt)
after-beside n H false (Some k) beside = (record { worker = 0; kind = k } ∷ [], refl, (beside, tt))

pub step-beside : {T : Type 0} (n : ℕ) (old : Stored) (given : Command) (r : Result T Refusal) (new : Stored) → IsOfOthers n given → Steps old 0 given r new → GoesBeside n old new
step-beside n old given r new other step =
    let it = after-beside n old.history (is_some (refusal_of old given)) (event_of (objects old) (summary old.history) given) (command-beside n (objects old) (summary old.history) given other) in
    (it.0, ap (λ (s : Stored). s.history) step.1 ∙ it.1, it.2)

pub may-beside : {T : Type 0} (n : ℕ) (old : Stored) (given : Command) (r : Result T Refusal) (new : Stored) → IsOfOthers n given → MayStep old 0 given r new → GoesBeside n old new
may-beside n old given r new other may = elim may [ inl step ↦ step-beside n old given r new other step | inr none ↦ stays-beside n old new none.2 ]

-- ---- all that is open, but for those

-- an abort of one of others doesn't concern one of those
aborts-beside : (n : ℕ) (H : List Event) (those : List ℕ) → is_among those n ≡ true → (ts : List ℕ) → AreBeside n (map (closing_abort H) (filter (is_other those (summary H)) ts))
aborts-beside n H those inside [] = tt
aborts-beside n H those inside (t ∷ ts) = by (is_among those t) refl (is_open (summary H) t) (aborts-beside n H those inside ts)
  where
    rest : List ℕ
    rest = filter (is_other those (summary H)) ts

    by : (b : Bool) → is_among those t ≡ b → (o : Bool) → AreBeside n (map (closing_abort H) rest) → AreBeside n (map (closing_abort H) (cond (not b && o) (t ∷ rest) rest))
    by true is o others = others
    by false is false others = others
    by false is true others = (eqb-sym t n ∙ is_among-apart those t n is inside, others)

pub closing-beside : (n : ℕ) (H : List Event) (those : List ℕ) → is_among those n ≡ true → AreBeside n (closing_but those H)
closing-beside n H those inside = aborts-beside n H those inside (range_with_len 0 (summary H).begun)

-- ---- a whole transaction

-- its operations are its own
operations-beside : (n t : ℕ) (calls : List CallAt) (ks : List ℕ) → (t == n) ≡ false → AllByRecursion (λ k. concerns n k ≡ false) (operation_events t calls ks)
operations-beside n t [] ks other = tt
operations-beside n t (call ∷ calls) [] other = tt
operations-beside n t (call ∷ calls) (k ∷ ks) other = (other, operations-beside n t calls ks other)

-- and the answer of its last call changes nothing
answer-beside : (n : ℕ) (os : List Object) (t : ℕ) (call : CallAt) (how : Ending) (answer : List EventKind) → EndsSo os t call how answer → AllByRecursion (λ k. concerns n k ≡ false) answer
answer-beside n os t call (ending.Busy u) answer ends = subst (AllByRecursion (λ k. concerns n k ≡ false)) (sym ends.2) (refl, tt)
answer-beside n os t call ending.None answer ends = subst (AllByRecursion (λ k. concerns n k ≡ false)) (sym ends.2) (refl, tt)
answer-beside n os t call (ending.Refused r) answer ends = subst (AllByRecursion (λ k. concerns n k ≡ false)) (sym ends.0) tt

-- as events of worker 0
kinds-beside : (n : ℕ) (happened : List EventKind) → AllByRecursion (λ k. concerns n k ≡ false) happened → AreBeside n (map (λ k. let e : Event = record { worker = 0; kind = k } in e) happened)
kinds-beside n [] beside = tt
kinds-beside n (k ∷ more) beside = (beside.0, kinds-beside n more beside.1)

-- one that is yet to begin is another
later-other : (n m : ℕ) → n < m → (m == n) ≡ false
later-other n m low = grind (arith, nat_tests)

pub attempt-beside : (n : ℕ) (old : Stored) (calls : List CallAt) (came : Attempt) (new : Stored) → n < begins old.history → AttemptAnswers old 0 calls came new → GoesBeside n old new
attempt-beside n old calls (Done ks) new low done =
    let t = begins old.history in
    let other = later-other n t low in
    let happened : List EventKind = kind.Begin t ∷ (operation_events t calls ks.items ++ kind.Commit t ∷ []) in (
      _,
      ap (λ (s : Stored). s.history) done.events,
      kinds-beside n happened (refl, each-push (λ k. concerns n k ≡ false) (operation_events t calls ks.items) (kind.Commit t) (operations-beside n t calls ks.items other) other),
    )
attempt-beside n old calls (Ended at how) new low ended =
    let t = begins old.history in
    let other = later-other n t low in
    let before = operation_events t (take at calls) ended.operations in
    let happened : List EventKind = kind.Begin t ∷ ((before ++ ended.answer) ++ kind.Abort t ∷ []) in (
      _,
      ap (λ (s : Stored). s.history) ended.events,
      kinds-beside n happened (
        refl,
        each-push (λ k. concerns n k ≡ false) (before ++ ended.answer) (kind.Abort t)
            (each-append (λ k. concerns n k ≡ false) before ended.answer (operations-beside n t (take at calls) ended.operations other) (answer-beside n (objects old) t ended.call how ended.answer ended.ends)) other,
      ),
    )
attempt-beside n old calls (NotBegun r) new low none = stays-beside n old new none.1
