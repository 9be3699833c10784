-- An answer comes in its turn, but for that of an extension.
use Rattle.serving.specs.Places.{comes_late}
use Rattle.serving.proofs.Places.{in_turn, turn-append, turn-epoch, turn-one}
use Rattle.std.proofs.Common.{◌≡◌, ◌∙◌, ℕ, ◌≤◌, Bool, true, false, Option, None, Some, Result, Ok, Err, List, [], ◌∷◌, length, refl, sym, ap, arith}
use Rattle.std.proofs.lemmas.List.{length-append}
use Rattle.std.specs.Prelude.{MatchBool, MatchOption, MatchResult, slice_get}
use Rattle.type_table.specs.declared.op.Op.{Op}
use Rattle.object_trait.specs.Object.{Object}
use Rattle.object_calls.specs.declared.answer.Answer as calls
use Rattle.object_calls.specs.declared.answer.Answer.TheVariants as call
use Rattle.object_trait.specs.declared.event.EventKind.{EventKind}
use Rattle.serial_order.specs.declared.refusal.Refusal.{Refusal}
use Rattle.serial_order.specs.declared.refusal.Refusal.TheVariants.{NoObject}
use Rattle.store_laws.specs.Stored.{Stored, objects}
use Rattle.store.specs.KeptState.{IsKeptState}
use Rattle.attempts.specs.declared.outcome.Attempt.{Attempt}
use Rattle.attempts.specs.declared.outcome.Attempt.TheVariants as attempt
use Rattle.attempts.specs.declared.outcome.Ending.{Ending}
use Rattle.attempts.specs.declared.outcome.Ending.TheVariants as ending
use Rattle.attempts.specs.Commands.{CallAt}
use Rattle.store_text.specs.declared.line.ObjectLine.{ObjectLine}
use Rattle.journal.specs.Contents.{Contents}
use Rattle.request_text.specs.Requests.{asked_by, calls_asked, objects_asked}
use Rattle.request_text.specs.declared.fault.RequestFault.{RequestFault}
use Rattle.request_text.specs.declared.request.Asked.{Asked}
use Rattle.request_text.specs.declared.request.AskedCall.{AskedCall}
use Rattle.request_text.specs.declared.request.ObjectWord.{ObjectWord}
use Rattle.request_text.specs.declared.request.Request.{Request}
use Rattle.request_text.specs.declared.request.Request.TheVariants as request
use Rattle.serving.specs.declared.answer_line.AnswerLine.{AnswerLine}
use Rattle.serving.specs.declared.answer_line.AnswerLine.TheVariants.{Committed, Completed, CompletedOne, Done, Events, Fault, Held, NotAdded, Nothing, NothingSeen, Objects, Refused, Seen, SeenStates, State, Types, Unseen}
use Rattle.serving.specs.declared.answer_line.Answered.{Answered}
use Rattle.serving.specs.declared.extension.Extension.{Extension}
use Rattle.journal.specs.declared.prepared_row.Prepared.{Prepared}
use Rattle.serial_order.specs.Operations.{is_among}
use Rattle.durable_store.specs.Keys.{op_of_object}
use Rattle.durable_store.specs.Held.{as_denied, prepared_numbers}
use Rattle.durable_store.specs.declared.denial.Denial.{Denial}
use Rattle.durable_store.specs.declared.denial.Denial.TheVariants as denied
use Rattle.durable_store.specs.declared.votes.Verdict.{Verdict}
use Rattle.durable_store.specs.declared.votes.Verdict.TheVariants as verdict
use Rattle.durable_store.specs.declared.votes.Vote.{Vote}
use Rattle.durable_store.specs.declared.votes.Vote.TheVariants as vote
use Rattle.serving.specs.Does.{begin_answer, call_answer, denied_answer, done_or, is_epoch_full, reply_of}
use Rattle.serving.specs.HeldTransactions.{TellsHeld}
use Rattle.serving.specs.Names.{KnownNames, number_named}
use Rattle.serving.specs.Prepared.{verdict_answer, vote_answer}
use Rattle.journal.specs.declared.outcome_row.Outcome.{Outcome}
use Rattle.journal.specs.declared.outcome_row.Outcome.TheVariants as outcome
use Rattle.durable_store.specs.declared.keyed.Keyed.{Keyed}
use Rattle.durable_store.specs.declared.keyed.Keyed.TheVariants as keyed
use Rattle.durable_store.specs.declared.keyed.KeyState.{KeyState}
use Rattle.durable_store.specs.declared.keyed.KeyState.TheVariants as state
use Rattle.durable_store.specs.declared.keyed.Unfinished.{Unfinished}
use Rattle.durable_store.specs.declared.keyed.Unfinished.TheVariants as unfinished
use Rattle.serving.specs.Keys.{commit_under_answer, committed_before, do_under_answer, done_before, draining_under, outcome_answer, unknown_under}
use Rattle.serving.specs.NextEpoch.{MayWait, begin_limit, full_with, is_not_added}
use Rattle.serving.specs.Requests.{DoesRequest, found_answer, TellsEvents, TellsObjects, TellsTypes, events_from}
use Rattle.serving.specs.Served.{IsAnswered, Serves}
use Rattle.serving.specs.Several.{DoesCommitted, DoesPeek, TellsAttempt, TellsReplies, ended_answer, replies_of}

pub either : {P Q G : Type 0} (b : Bool) → MatchBool b P Q → (P → G) → (Q → G) → G
either true p first second = first p
either false p first second = second p

-- of a name that nobody has, or that one has
pub if-known : {A P G : Type 0} {Q : A → Type 0} (found : Option A) → MatchOption found P Q → (P → G) → ((x : A) → Q x → G) → G
if-known None p none some = none p
if-known (Some x) p none some = some x p

turn-begin : (life : ℕ) (r : Result ℕ Refusal) → comes_late (begin_answer life r) ≡ false
turn-begin life (Ok n) = refl
turn-begin life (Err e) = refl

turn-reply : (op : Option Op) → comes_late (reply_of op) ≡ false
turn-reply None = refl
turn-reply (Some op) = refl

turn-denied : (why : Denial) → comes_late (denied_answer why) ≡ false
turn-denied denied.Prepared = refl
turn-denied (denied.Refused refusal) = refl

turn-call : (s : Stored) (names : KnownNames) (x : ℕ) (r : Result calls.Answer Denial) → comes_late (call_answer s names x r) ≡ false
turn-call s names x (Ok (call.Reply k)) = turn-reply (op_of_object s x k)
turn-call s names x (Ok (call.Busy u)) = refl
turn-call s names x (Ok call.None) = refl
turn-call s names x (Err why) = turn-denied why

turn-done : (r : Result (Unit {0}) Denial) → comes_late (done_or Done r) ≡ false
turn-done (Ok u) = refl
turn-done (Err why) = turn-denied why

turn-committed : (r : Result (Unit {0}) Denial) → comes_late (done_or Committed r) ≡ false
turn-committed (Ok u) = refl
turn-committed (Err why) = turn-denied why

turn-kept : (o : Option Object) (old : Stored) (x : ℕ) (answer : AnswerLine) → MatchOption o (answer ≡ Refused NoObject) (λ o. (state : ℕ) × IsKeptState old x state × (answer ≡ State state)) → comes_late answer ≡ false
turn-kept None old x answer it = ap comes_late it
turn-kept (Some o) old x answer it = ap comes_late it.2

turn-objects : (clean : Type 0) (answer : AnswerLine) (objects : List ObjectLine) → TellsObjects clean answer objects → comes_late answer ≡ false
turn-objects clean (Objects told) objects tells = refl
turn-objects clean answer objects tells = absurd tells

turn-types : (clean : Type 0) (answer : AnswerLine) (texts : List (List ℕ)) → TellsTypes clean answer texts → comes_late answer ≡ false
turn-types clean (Types told) texts tells = refl
turn-types clean answer texts tells = absurd tells

turn-events : (clean : Type 0) (answer : AnswerLine) (events : List EventKind) → TellsEvents clean answer events → comes_late answer ≡ false
turn-events clean (Events told) events tells = refl
turn-events clean answer events tells = absurd tells

turn-found : (found : Option ℕ) → comes_late (found_answer found) ≡ false
turn-found None = refl
turn-found (Some x) = refl

turn-peek : (clean : Type 0) (answer : AnswerLine) (life : ℕ) (lines : List ObjectLine) (old : Stored) (calls : List AskedCall) (new : Stored) → DoesPeek clean life lines old calls answer new → comes_late answer ≡ false
turn-peek clean (Seen moment replies) life lines old calls new does = refl
turn-peek clean (NothingSeen at) life lines old calls new does = refl
turn-peek clean (Unseen refusal) life lines old calls new does = refl
turn-peek clean answer life lines old calls new does = absurd does

turn-states : (clean : Type 0) (answer : AnswerLine) (life : ℕ) (lines : List ObjectLine) (old : Stored) (xs : List ObjectWord) (new : Stored) → DoesCommitted clean life lines old xs answer new → comes_late answer ≡ false
turn-states clean (SeenStates moment states) life lines old xs new does = refl
turn-states clean (Refused NoObject) life lines old xs new does = refl
turn-states clean answer life lines old xs new does = absurd does

turn-replies : (replies : List (Option (List ℕ))) (answer : AnswerLine) → TellsReplies replies answer → comes_late answer ≡ false
turn-replies replies (Completed told) tells = refl
turn-replies replies (CompletedOne told) tells = refl
turn-replies replies Nothing tells = refl
turn-replies replies answer tells = absurd tells

turn-ended : (names : KnownNames) (at : ℕ) (how : Ending) → comes_late (ended_answer names at how) ≡ false
turn-ended names at (ending.Busy u) = refl
turn-ended names at ending.None = refl
turn-ended names at (ending.Refused refusal) = refl

turn-attempt : (s : Stored) (names : KnownNames) (calls : List CallAt) (came : Attempt) (answer : AnswerLine) → TellsAttempt s names calls came answer → comes_late answer ≡ false
turn-attempt s names calls (attempt.Done ks) answer tells = turn-replies (replies_of s calls ks.items) answer tells
turn-attempt s names calls (attempt.Ended at how) answer tells = ap comes_late tells ∙ turn-ended names at how
turn-attempt s names calls (attempt.NotBegun refusal) answer tells = ap comes_late tells

turn-committed-before : (known : Outcome) → comes_late (committed_before known) ≡ false
turn-committed-before (outcome.Committed replies) = refl
turn-committed-before outcome.Aborted = refl

turn-done-before : (known : Outcome) → comes_late (done_before known) ≡ false
turn-done-before (outcome.Committed replies) = refl
turn-done-before outcome.Aborted = refl

turn-commit-under : (came : Keyed Denial) → comes_late (commit_under_answer came) ≡ false
turn-commit-under (keyed.Done kept) = refl
turn-commit-under (keyed.Undone why) = turn-denied why
turn-commit-under (keyed.Known known) = turn-committed-before known
turn-commit-under keyed.Prepared = refl
turn-commit-under keyed.Taken = refl

turn-unknown-under : (known : KeyState) → comes_late (unknown_under known) ≡ false
turn-unknown-under state.Free = refl
turn-unknown-under (state.Known known) = turn-committed-before known
turn-unknown-under state.Prepared = refl
turn-unknown-under state.Taken = refl

turn-do-under : (names : KnownNames) (came : Keyed Unfinished) → comes_late (do_under_answer names came) ≡ false
turn-do-under names (keyed.Done kept) = turn-done-before kept
turn-do-under names (keyed.Undone (unfinished.Ended at how)) = turn-ended names at how
turn-do-under names (keyed.Undone (unfinished.NotBegun refusal)) = refl
turn-do-under names (keyed.Known known) = turn-done-before known
turn-do-under names keyed.Prepared = refl
turn-do-under names keyed.Taken = refl

turn-draining : (known : KeyState) → comes_late (draining_under known) ≡ false
turn-draining state.Free = refl
turn-draining (state.Known known) = turn-done-before known
turn-draining state.Prepared = refl
turn-draining state.Taken = refl

turn-outcome : (known : KeyState) → comes_late (outcome_answer known) ≡ false
turn-outcome state.Free = refl
turn-outcome (state.Known known) = refl
turn-outcome state.Prepared = refl
turn-outcome state.Taken = refl

turn-vote : (came : Vote) → comes_late (vote_answer came) ≡ false
turn-vote vote.Prepared = refl
turn-vote vote.Again = refl
turn-vote vote.NotOpen = refl
turn-vote vote.Otherwise = refl
turn-vote vote.KeyInUse = refl
turn-vote (vote.Known (outcome.Committed replies)) = refl
turn-vote (vote.Known outcome.Aborted) = refl
turn-vote vote.Taken = refl

turn-verdict : (came : Verdict) → comes_late (verdict_answer came) ≡ false
turn-verdict verdict.Decided = refl
turn-verdict (verdict.Otherwise known) = refl
turn-verdict verdict.Unknown = refl
turn-verdict verdict.Taken = refl

turn-held : (answer : AnswerLine) (ps : List Prepared) (s : Stored) → TellsHeld answer ps s → comes_late answer ≡ false
turn-held (Held told) ps s tells = refl
turn-held answer ps s tells = absurd tells

does-turn : (clean : Type 0) (most : ℕ) (names : KnownNames) (c : Contents) (ps : List Prepared) (line : List ℕ) (old : Stored) (r : Request) (answer : AnswerLine) (new : Stored) → DoesRequest clean most names c ps line old r answer new → comes_late answer ≡ false
does-turn clean most names c ps line old request.Begin answer new does = either (is_epoch_full most old) does (λ p. ap comes_late p.0) (λ p. ap comes_late p.2 ∙ turn-begin names.life p.0)
does-turn clean most names c ps line old (request.Call t x name) answer new does =
    if-known (number_named names t) does.2 (λ p. ap comes_late p.0) (λ n p. ap comes_late p.2 ∙ turn-call new names does.0 p.0)
does-turn clean most names c ps line old (request.Would t x name) answer new does =
    if-known (number_named names t) does.2 (λ p. ap comes_late p.0)
    (λ n p. either (is_among (prepared_numbers ps) n) p.1 (λ told. ap comes_late told) (λ q. ap comes_late q.2 ∙ turn-call old names does.0 (as_denied q.0)))
does-turn clean most names c ps line old (request.Commit t) answer new does =
    if-known (number_named names t) does (λ p. ap comes_late p.0) (λ n p. ap comes_late p.2 ∙ turn-committed p.0)
does-turn clean most names c ps line old (request.CommitUnder t key) answer new does =
    if-known (number_named names t) does (λ p. ap comes_late p.2 ∙ turn-unknown-under p.0) (λ n p. ap comes_late p.3 ∙ turn-commit-under p.0)
does-turn clean most names c ps line old (request.Abort t) answer new does =
    if-known (number_named names t) does (λ p. ap comes_late p.0) (λ n p. ap comes_late p.2 ∙ turn-done p.0)
does-turn clean most names c ps line old (request.Rollback t count) answer new does =
    if-known (number_named names t) does (λ p. ap comes_late p.0) (λ n p. ap comes_late p.2 ∙ turn-done p.0)
does-turn clean most names c ps line old (request.Kept x) answer new does = turn-kept (slice_get (objects old) does.0) old does.0 answer does.2.1
does-turn clean most names c ps line old request.Peek answer new does = turn-peek clean answer names.life c.objects old (calls_asked line) new does
does-turn clean most names c ps line old request.Committed answer new does = turn-states clean answer names.life c.objects old (objects_asked line) new does
does-turn clean most names c ps line old request.Do answer new does = either (is_epoch_full most old) does (λ p. ap comes_late p.0) (λ it. turn-attempt new names it.made it.came answer it.tells)
does-turn clean most names c ps line old (request.DoUnder key) answer new does = either (is_epoch_full most old) does (λ p. ap comes_late p.2 ∙ turn-draining p.0) (λ p. ap comes_late p.5 ∙ turn-do-under names p.2)
does-turn clean most names c ps line old (request.Outcome key) answer new does = ap comes_late does.2 ∙ turn-outcome does.0
does-turn clean most names c ps line old (request.Prepare t key until) answer new does =
    if-known (number_named names t) does.1 (λ told. ap comes_late told) (λ n p. ap comes_late p.2 ∙ turn-vote p.0)
does-turn clean most names c ps line old (request.Decide key d) answer new does = ap comes_late does.2 ∙ turn-verdict does.0
does-turn clean most names c ps line old request.Prepared answer new does = turn-held answer ps old does.0
does-turn clean most names c ps line old (request.Find name) answer new does = ap comes_late does.2 ∙ turn-found does.1
does-turn clean most names c ps line old request.Objects answer new does = turn-objects clean answer c.objects does.0
does-turn clean most names c ps line old request.Types answer new does = turn-types clean answer c.types does.0
does-turn clean most names c ps line old (request.Events from count) answer new does = turn-events clean answer (events_from old from count) does.0
does-turn clean most names c ps line old request.Stats answer new does = ap comes_late does.0
does-turn clean most names c ps line old request.Extend answer new does = ap comes_late does.0
does-turn clean most names c ps line old request.End answer new does = ap comes_late does.0

pub answered-turn : (clean : Type 0) (most : ℕ) (names : KnownNames) (c : Contents) (line : List ℕ) (old : Stored) (a : Answered) (new : Stored) → IsAnswered clean most names c line old a new → comes_late a.answer ≡ false
answered-turn clean most names c line old a new answered =
    elim (asked_by line).request as (λ (q : Result Request RequestFault). MatchResult q (λ r. DoesRequest clean most names c answered.prepared line old r a.answer new) (λ fault. (a.answer ≡ Fault fault) × (new ≡ old)) → comes_late a.answer ≡ false) [
      | Ok r ↦ λ does. does-turn clean most names c answered.prepared line old r a.answer new does
      | Err fault ↦ λ told. ap comes_late told.0
    ] answered.request

not-added-turn : (answer : AnswerLine) → is_not_added answer ≡ true → comes_late answer ≡ false
not-added-turn (NotAdded why) it = refl
not-added-turn answer it = absurd cc

pub more-turn : (a : Answered) (waits : Option Extension) → MayWait a.tag a.answer waits → comes_late a.answer ≡ false
more-turn a None it = not-added-turn a.answer it
more-turn a (Some e) it = ap comes_late it.0

-- each line but one that asks for the end has an answer
pub serves-count : {clean : Type 0} {most : ℕ} {c : Contents} {first : KnownNames} {lines : List (List ℕ)} {old : Stored} {answers : List Answered} {names : KnownNames} {said : Contents} {new : Stored} {ended : Option Asked} {waits : Option Extension}
    → Serves clean most c first lines old answers names said new ended waits → (in_turn answers ≤ length lines) × (ended ≡ None → length lines ≡ in_turn answers)
serves-count (Serves.none s) = (omega arith, λ e. refl)
serves-count {clean} {most} (Serves.line lines asked old mid new answers a names said waits goes before other may strong answered) =
    let so_far = (serves-count before).1 refl in
    let one = turn-one a (answered-turn clean (begin_limit goes waits (full_with most names)) names said asked mid a new answered) in
    (omega (arith, length-append lines (asked ∷ []), turn-append answers (a ∷ []), one, so_far), λ e. omega (arith, length-append lines (asked ∷ []), turn-append answers (a ∷ []), one, so_far))
serves-count (Serves.more lines asked old new answers a names said waits before may more) =
    let so_far = (serves-count before).1 refl in
    let one = turn-one a (more-turn a waits more.told) in
    (omega (arith, length-append lines (asked ∷ []), turn-append answers (a ∷ []), one, so_far), λ e. omega (arith, length-append lines (asked ∷ []), turn-append answers (a ∷ []), one, so_far))
serves-count (Serves.end lines asked old new answers names said waits before ends) =
    let so_far = (serves-count before).1 refl in
    (omega (arith, length-append lines (asked ∷ []), so_far), λ e. absurd cc)
serves-count (Serves.forget lines old mid answers names n said ended waits before) = serves-count before
serves-count (Serves.epoch lines old mid new answers names next said now waits goes ps new_ps before full strong renews over counted are follows says) =
    let so_far = serves-count before in
    (omega (arith, turn-epoch waits mid answers, so_far.0), λ e. so_far.1 refl ∙ sym (turn-epoch waits mid answers))
