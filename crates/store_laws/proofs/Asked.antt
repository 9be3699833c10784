-- Commands that a store is asked one after another: their replay.
use Rattle.std.proofs.Common.{◌≡◌, ℕ, zero, suc, ◌+◌, Bool, true, false, List, [], ◌∷◌, ◌++◌, take, inl, inr, Option, Some, None, Result, Ok, Err, refl, sym, ap, subst, ◌∙◌, add-zero, zero-add, add-suc, suc-add}
use Rattle.std.specs.Prelude.{slice_get, if◌then◌else◌, not, is_some, ◌||◌, ◌==◌, nat_lt, nat_le, length}
use Rattle.std.proofs.lemmas.Option.{none-some, same_Some}
use Rattle.std.proofs.lemmas.List.{append_cancel_left}
use Rattle.object_trait.specs.Object.{Object}
use Rattle.object_trait.specs.declared.event.Event.{Event}
use Rattle.serial_order.specs.Operations.{of}
use Rattle.serial_order.specs.History.{summary, is_open}
use Rattle.serial_order.specs.Laws.{CommandAppends}
use Rattle.store_limits.specs.declared.limits.Limits.{Limits}
use Rattle.serial_order.specs.Replay.{open_count, is_history_full, call_at, refusal, after_command, replay_from}
use Rattle.serial_order.specs.declared.command.Command.{Command}
use Rattle.serial_order.specs.declared.command.Command.TheVariants.{Begin, Call, Commit, Abort, Rollback}
use Rattle.serial_order.specs.declared.refusal.Refusal.{Refusal}
use Rattle.serial_order.specs.declared.refusal.Refusal.TheVariants.{NotOpen, NoObject, NoCall, TooManyOpen, HistoryFull, BadRollback, NoMemory}
use Rattle.store_laws.specs.Stored.{Stored, objects, refusal_of, refusal_in}
use Rattle.store_laws.specs.Words.{as_event}
use Rattle.store_laws.specs.Asked.{AskedCommand, result_of, IsAskedAt, AreAsked, store_left_by, commands_of, is_memory_refused, memory_refused_in, AskedIsReplayed, StepIsAsked, AnswerIsDefined}

-- ---- one call

-- a result and what it says of its refusal are refused alike
same_refused : {T : Type 0} (result : Result T Refusal) → refusal_in result ≡ refusal_in (result_of (refusal_in result))
same_refused (Ok x) = refl
same_refused (Err r) = refl

-- and both say that memory was refused, or neither does
same_memory_refused : {T : Type 0} (result : Result T Refusal) → result ≡ Err NoMemory → result_of (refusal_in result) ≡ Err NoMemory
same_memory_refused result is = ap (λ r. result_of (refusal_in r)) is

-- the law of one call
pub step-is-asked : {T : Type 0} → StepIsAsked T
step-is-asked = λ old new w command result step.
    elim step [
      | inl steps ↦ inl (sym (same_refused result) ∙ steps.0, steps.1)
      | inr memory_refused ↦ inr (memory_refused.0, same_memory_refused result memory_refused.1, memory_refused.2)
    ]

-- ---- refused memory is no reason by the definition

-- of a test and the reasons after it
not_memory_refused : (test : Bool) (r : Refusal) (rest : Option Refusal) → is_memory_refused (Some r) ≡ false → is_memory_refused rest ≡ false → is_memory_refused (if test then Some r else rest) ≡ false
not_memory_refused true r rest first behind = first
not_memory_refused false r rest first behind = behind

never-memory_refused : (objects : List Object) (limits : Limits) (H : List Event) (command : Command) → is_memory_refused (refusal objects limits H command) ≡ false
never-memory_refused objects limits H Begin =
    not_memory_refused (nat_le limits.«open» (open_count (summary H))) TooManyOpen _ refl (not_memory_refused (is_history_full limits H 2) HistoryFull None refl refl)
never-memory_refused objects limits H (Call t x name) =
    not_memory_refused (not (is_open (summary H) t)) NotOpen _ refl
    (not_memory_refused (not (is_some (slice_get objects x))) NoObject _ refl
    (not_memory_refused (not (is_some (call_at (slice_get objects x) name))) NoCall _ refl (not_memory_refused (is_history_full limits H 1) HistoryFull None refl refl)))
never-memory_refused objects limits H (Commit t) = not_memory_refused (not (is_open (summary H) t)) NotOpen None refl refl
never-memory_refused objects limits H (Abort t) = not_memory_refused (not (is_open (summary H) t)) NotOpen None refl refl
never-memory_refused objects limits H (Rollback t n) =
    not_memory_refused (not (is_open (summary H) t)) NotOpen _ refl
    (not_memory_refused (n == 0 || nat_lt (length (of t (summary H).survives)) n) BadRollback _ refl (not_memory_refused (is_history_full limits H 1) HistoryFull None refl refl))

-- ---- one command

-- what a reason says, of the results of two calls
refused-result : (reason : Option Refusal) → refusal_in (result_of reason) ≡ reason
refused-result None = refl
refused-result (Some r) = refl

-- the store after a command, at which memory is refused or isn't
abbrev next_store : Stored → Bool → AskedCommand → Stored
next_store old memory_refused a = record old { history = if memory_refused then old.history else after_command (objects old) old.limits old.history a.worker a.command }

-- it is what the command left
one-left : (old : Stored) (a : AskedCommand) → IsAskedAt old a → a.left ≡ next_store old (is_memory_refused a.reason) a
one-left old a (inl steps) =
    let reason : a.reason ≡ refusal_of old a.command = sym (refused-result a.reason) ∙ steps.0 in
    let memory_refused : is_memory_refused a.reason ≡ false = ap is_memory_refused reason ∙ never-memory_refused (objects old) old.limits old.history a.command in
    steps.1 ∙ ap (λ b. next_store old b a) (sym memory_refused)
one-left old a (inr memory) =
    let reason : a.reason ≡ Some NoMemory = sym (refused-result a.reason) ∙ ap refusal_in memory.1 in
    let memory_refused : is_memory_refused a.reason ≡ true = ap is_memory_refused reason in
    memory.2 ∙ ap (λ b. next_store old b a) (sym memory_refused)

-- ---- all of them

-- a store with the history that is the replay of some commands from a place on
abbrev from_place : Stored → (ℕ → Bool) → ℕ → List (ℕ × Command) → Stored
from_place old memory_refused n commands = record old { history = replay_from (objects old) old.limits memory_refused n old.history commands }

-- memory was refused at the places of a list that begins at n
abbrev MemoryRefusedFrom : (ℕ → Bool) → ℕ → List AskedCommand → Type 0
MemoryRefusedFrom memory_refused n asked = (i : ℕ) → memory_refused (n + i) ≡ memory_refused_in asked i

-- so at those of its rest, which begins after n
memory_refused-rest : (memory_refused : ℕ → Bool) (n : ℕ) (a : AskedCommand) (asked : List AskedCommand) → MemoryRefusedFrom memory_refused n (a ∷ asked) → MemoryRefusedFrom memory_refused (suc n) asked
memory_refused-rest memory_refused n a asked same = λ i. ap memory_refused (suc-add n i ∙ sym (add-suc n i)) ∙ same (suc i)

-- what the first command left
first-left : (old : Stored) (memory_refused : ℕ → Bool) (n : ℕ) (a : AskedCommand) (asked : List AskedCommand) → IsAskedAt old a → MemoryRefusedFrom memory_refused n (a ∷ asked) → a.left ≡ next_store old (memory_refused n) a
first-left old memory_refused n a asked is same = one-left old a is ∙ ap (λ b. next_store old b a) (sym (ap memory_refused (sym (add-zero n)) ∙ same 0))

all-from : (old : Stored) (memory_refused : ℕ → Bool) (n : ℕ) (asked : List AskedCommand) → AreAsked old asked → MemoryRefusedFrom memory_refused n asked → store_left_by old asked ≡ from_place old memory_refused n (commands_of asked)
all-from old memory_refused n [] are same = refl
all-from old memory_refused n (a ∷ asked) are same =
    all-from a.left memory_refused (suc n) asked are.1 (memory_refused-rest memory_refused n a asked same)
    ∙ ap (λ s. from_place s memory_refused (suc n) (commands_of asked)) (first-left old memory_refused n a asked are.0 same)

each-from : (old : Stored) (memory_refused : ℕ → Bool) (n : ℕ) (asked : List AskedCommand) → AreAsked old asked → MemoryRefusedFrom memory_refused n asked → (i : ℕ) (a : AskedCommand) → slice_get asked i ≡ Some a →
    IsAskedAt (from_place old memory_refused n (take i (commands_of asked))) a
each-from old memory_refused n [] are same i a is = absurd (none-some a is)
each-from old memory_refused n (b ∷ asked) are same zero a is = subst (λ x. IsAskedAt old x) (same_Some b a is) are.0
each-from old memory_refused n (b ∷ asked) are same (suc i) a is =
    subst (λ s. IsAskedAt (from_place s memory_refused (suc n) (take i (commands_of asked))) a) (first-left old memory_refused n b asked are.0 same)
    (each-from b.left memory_refused (suc n) asked are.1 (memory_refused-rest memory_refused n b asked same) i a is)

-- the law of commands that were asked one after another
pub asked-is-replayed : AskedIsReplayed
asked-is-replayed = λ old asked are.
    let same : MemoryRefusedFrom (memory_refused_in asked) 0 asked = λ i. ap (memory_refused_in asked) (zero-add i) in
    record { all = all-from old (memory_refused_in asked) 0 asked are same; each = each-from old (memory_refused_in asked) 0 asked are same }

-- ---- answers

-- the last events of two equal lists are of one kind
same-kind : (H : List Event) (e f : Event) → H ++ e ∷ [] ≡ H ++ f ∷ [] → e.kind ≡ f.kind
same-kind H e f same = let both : e ∷ [] ≡ f ∷ [] = append_cancel_left H (e ∷ []) (f ∷ []) same in cc

-- the law of answers
pub answer-is-defined : CommandAppends → AnswerIsDefined
answer-is-defined appends = λ old new w t x c name answer step named told.
    elim step [
      | inl steps ↦
          let its = appends (objects old) old.limits old.history w (Call t x name) (sym steps.0) in
          let history : after_command (objects old) old.limits old.history w (Call t x name) ≡ old.history ++ (record { worker = w; kind = as_event t x c answer }) ∷ [] =
          ap (λ (s : Stored). s.history) (sym steps.1 ∙ told) in
          its.is ∙ ap Some (same-kind old.history (record { worker = w; kind = its.happened }) (record { worker = w; kind = as_event t x c answer }) (sym its.appends ∙ history))
      | inr memory_refused ↦ absurd (let never : Ok answer ≡ Err NoMemory = memory_refused.1 in cc)
    ]
