-- What a whole transaction did.
use Rattle.std.proofs.Common.{◌≡◌, ℕ, false, true, List, Result, refl, sym, subst}
use Rattle.std.specs.Prelude.{IfOk, MatchBool}
use Rattle.serial_order.specs.History.{begins}
use Rattle.store_laws.specs.Stored.{Stored}
use Rattle.store_text.specs.declared.line.ObjectLine.{ObjectLine}
use Rattle.journal.specs.Contents.{Contents}
use Rattle.durable_store.specs.Keys.{AttemptsUnder, IsInState, KnowsKey}
use Rattle.durable_store.specs.declared.keyed.KeyState.{KeyState}
use Rattle.durable_store.specs.declared.keyed.Keyed.{Keyed}
use Rattle.durable_store.specs.declared.keyed.Unfinished.{Unfinished}
use Rattle.attempts.specs.declared.outcome.Attempt.{Attempt}
use Rattle.attempts.specs.Commands.{CallAt, attempt_commands, commands_replayed, is_memory_refused_at}
use Rattle.attempts.specs.Answers.{AttemptAnswers}
use Rattle.request_text.specs.declared.request.AskedCall.{AskedCall}
use Rattle.serving.specs.declared.answer_line.AnswerLine.{AnswerLine}
use Rattle.serving.specs.declared.answer_line.AnswerLine.TheVariants.{Draining}
use Rattle.serving.specs.Does.{is_epoch_full}
use Rattle.serving.specs.Several.{Attempts, DoesDo, InTurn, IsCallAt, TellsAttempt}
use Rattle.serving.specs.Keys.{DoesDoUnder, do_under_answer, draining_under}
use Rattle.serving.specs.Names.{KnownNames}
use Rattle.serving.specs.Prepared.{now_says}
use Rattle.journal.specs.declared.prepared_row.Prepared.{Prepared}
use Rattle.request_text.specs.Requests.{calls_asked}
use Rattle.request_text.specs.declared.request.ObjectWord.{ObjectWord}
use Rattle.request_text.specs.declared.request.Request.{Request}
use Rattle.request_text.specs.declared.request.Request.TheVariants as request
use Rattle.request_text.specs.declared.request.TransactionName.{TransactionName}
use Rattle.serving.specs.Does.{DoesCall}
use Rattle.serving.specs.Means.{Means}
use Rattle.serving.specs.Requests.{DoesRequest}
use Rattle.serving.proofs.Premises.{attempts-before, called-before, means-before}
use Rattle.serving.proofs.Results.{if-ok}

-- in an epoch that isn't full it was attempted
pub attempt-does : {clean clean' : Type 0} → (clean' → clean) → (most : ℕ) (names : KnownNames) (lines : List ObjectLine) (old : Stored) (calls : List AskedCall) (made : List CallAt) (came : Attempt) (answer : AnswerLine) (new : Stored)
    → is_epoch_full most old ≡ false → InTurn (IsCallAt clean lines) calls made → new ≡ commands_replayed old (is_memory_refused_at came) 0 (attempt_commands (begins old.history) made came) → AttemptAnswers old 0 made came new
    → TellsAttempt new names made came answer → DoesDo clean' most names lines old calls answer new
attempt-does {clean} {clean'} sure most names lines old calls made came answer new full are_made replays answers tells =
    subst (λ b. MatchBool b ((answer ≡ Draining) × (new ≡ old)) (Attempts clean' names lines old calls answer new)) (sym full)
    (attempts-before sure answer names lines lines old calls new (λ now. refl) (record { made = made; are_made = are_made; came = came; replays = replays; answers = answers; tells = tells }))

-- and one under a key
pub under-does : {clean clean' : Type 0} → (clean' → clean) → (most : ℕ) (names : KnownNames) (c : Contents) (old : Stored) (calls : List AskedCall) (key : List ℕ) (made : List CallAt) (came : Keyed Unfinished) (answer : AnswerLine) (new : Stored)
    → is_epoch_full most old ≡ false → InTurn (IsCallAt clean c.objects) calls made → (clean' → KnowsKey (now_says c old) key came) → AttemptsUnder old made came new → answer ≡ do_under_answer names came → DoesDoUnder clean' most names c old calls key answer new
under-does {clean} {clean'} sure most names c old calls key made came answer new full are_made knows does same =
    subst (λ b. MatchBool b ((known : KeyState) × (clean' → IsInState (now_says c old) key known) × (answer ≡ draining_under known) × (new ≡ old))
    ((made : List CallAt) × InTurn (IsCallAt clean' c.objects) calls made × (came : Keyed Unfinished) × (clean' → KnowsKey (now_says c old) key came) × AttemptsUnder old made came new × (answer ≡ do_under_answer names came))) (sym full)
    (made, called-before sure c.objects c.objects (λ now. refl) calls made are_made, came, knows, does, same)

-- where no transaction begins
pub draining-does : {clean : Type 0} (most : ℕ) (names : KnownNames) (c : Contents) (old : Stored) (calls : List AskedCall) (key : List ℕ) (known : KeyState) (answer : AnswerLine) (new : Stored)
    → is_epoch_full most old ≡ true → (clean → IsInState (now_says c old) key known) → answer ≡ draining_under known → new ≡ old → DoesDoUnder clean most names c old calls key answer new
draining-does {clean} most names c old calls key known answer new full knows told same =
    subst (λ b. MatchBool b ((known : KeyState) × (clean → IsInState (now_says c old) key known) × (answer ≡ draining_under known) × (new ≡ old))
    ((made : List CallAt) × InTurn (IsCallAt clean c.objects) calls made × (came : Keyed Unfinished) × (clean → KnowsKey (now_says c old) key came) × AttemptsUnder old made came new × (answer ≡ do_under_answer names came))) (sym full)
    (known, knows, told, same)

-- ---- as it was asked

pub call-asked : {clean clean' E : Type 0} → (clean' → clean) → (most : ℕ) (names : KnownNames) (c : Contents) (ps : List Prepared) (line : List ℕ) (old : Stored) (x : ObjectWord) (t : TransactionName) (name : List ℕ) (n : ℕ) (r : Result AnswerLine E) (new : Stored)
    (q : Request) → q ≡ request.Call t x name → Means clean c.objects x n → IfOk r (λ a. DoesCall names ps old t n name a new) → IfOk r (λ a. DoesRequest clean' most names c ps line old q a new)
call-asked {clean} {clean'} sure most names c ps line old x t name n r new q is means does =
    if-ok r (λ a it. subst (λ asked. DoesRequest clean' most names c ps line old asked a new) (sym is) (n, means-before sure x n c.objects c.objects (λ now. refl) means, it)) does

pub under-asked : {E : Type 0} (clean : Type 0) (most : ℕ) (names : KnownNames) (c : Contents) (ps : List Prepared) (line : List ℕ) (old : Stored) (key : List ℕ) (calls : List AskedCall) (r : Result AnswerLine E) (new : Stored) (q : Request)
    → q ≡ request.DoUnder key → calls ≡ calls_asked line → IfOk r (λ a. DoesDoUnder clean most names c old calls key a new) → IfOk r (λ a. DoesRequest clean most names c ps line old q a new)
under-asked clean most names c ps line old key calls r new q is asked does =
    if-ok r (λ a it. subst (λ w. DoesRequest clean most names c ps line old w a new) (sym is) (subst (λ cs. DoesDoUnder clean most names c old cs key a new) asked it)) does
