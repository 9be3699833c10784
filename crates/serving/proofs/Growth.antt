-- A history grows by each line.
use Rattle.serving.proofs.InTurns.{either, if-known}
use Rattle.std.proofs.Common.{◌≡◌, ◌∙◌, inl, inr, ℕ, Bool, true, false, Option, None, Some, Result, Ok, Err, List, [], ◌∷◌, ◌++◌, refl, sym, ap, subst}
use Rattle.std.proofs.lemmas.List.{append-nil}
use Rattle.std.specs.Prelude.{MatchResult, if◌then◌else◌, is_some}
use Rattle.object_trait.specs.declared.event.Event.{Event}
use Rattle.object_trait.specs.declared.event.EventKind.{EventKind}
use Rattle.serial_order.specs.History.{summary}
use Rattle.serial_order.specs.Replay.{appended, event_of}
use Rattle.serial_order.specs.declared.command.Command.{Command}
use Rattle.serial_order.specs.declared.command.Command.TheVariants as command
use Rattle.serial_order.specs.declared.refusal.Refusal.{Refusal}
use Rattle.serial_order.specs.declared.refusal.Refusal.TheVariants.{NoObject}
use Rattle.store_laws.specs.Stored.{MayStep, Steps, Stored, stored_after, objects, refusal_of}
use Rattle.attempts.specs.declared.outcome.Attempt.{Attempt}
use Rattle.attempts.specs.declared.outcome.Attempt.TheVariants as attempt
use Rattle.attempts.specs.Commands.{CallAt}
use Rattle.attempts.specs.Answers.{AttemptAnswers}
use Rattle.store_text.specs.declared.line.ObjectLine.{ObjectLine}
use Rattle.journal.specs.declared.outcome_row.Outcome.TheVariants as outcome
use Rattle.journal.specs.Contents.{Contents}
use Rattle.request_text.specs.Requests.{asked_by, calls_asked, objects_asked}
use Rattle.request_text.specs.declared.fault.RequestFault.{RequestFault}
use Rattle.request_text.specs.declared.request.AskedCall.{AskedCall}
use Rattle.request_text.specs.declared.request.ObjectWord.{ObjectWord}
use Rattle.request_text.specs.declared.request.Request.{Request}
use Rattle.request_text.specs.declared.request.Request.TheVariants as request
use Rattle.serving.specs.declared.answer_line.AnswerLine.{AnswerLine}
use Rattle.serving.specs.declared.answer_line.AnswerLine.TheVariants.{Fault, NothingSeen, Refused, Seen, SeenStates, Unseen}
use Rattle.serving.specs.declared.answer_line.Answered.{Answered}
use Rattle.serving.specs.Does.{is_epoch_full}
use Rattle.journal.specs.declared.prepared_row.Prepared.{Prepared}
use Rattle.serial_order.specs.Operations.{is_among}
use Rattle.durable_store.specs.Held.{Unless, prepared_numbers}
use Rattle.durable_store.specs.Votes.{Decides, decided_command}
use Rattle.durable_store.specs.declared.denial.Denial.{Denial}
use Rattle.durable_store.specs.declared.denial.Denial.TheVariants as denied
use Rattle.durable_store.specs.declared.votes.Decision.{Decision}
use Rattle.durable_store.specs.declared.votes.Verdict.{Verdict}
use Rattle.durable_store.specs.declared.votes.Verdict.TheVariants as verdict
use Rattle.serving.specs.Names.{KnownNames, number_named}
use Rattle.serving.specs.Prepared.{decision_of, now_says}
use Rattle.durable_store.specs.declared.keyed.Keyed.{Keyed}
use Rattle.durable_store.specs.declared.keyed.Keyed.TheVariants as keyed
use Rattle.durable_store.specs.declared.keyed.Unfinished.{Unfinished}
use Rattle.durable_store.specs.Keys.{AttemptsUnder, CommitsUnder}
use Rattle.serving.specs.Requests.{DoesRequest, LetsGo}
use Rattle.serving.specs.Served.{IsAnswered}
use Rattle.serving.specs.Several.{DoesCommitted, DoesPeek}

abbrev pub Grows : Stored → Stored → Type 0
Grows old new = (more : List Event) × (new.history ≡ old.history ++ more) × (new.types ≡ old.types)

pub same-grows : (old new : Stored) → new ≡ old → Grows old new
same-grows old new same = ([], ap (λ (s : Stored). s.history) same ∙ sym (append-nil old.history), ap (λ (s : Stored). s.types) same)

lets-grow : (old new : Stored) → LetsGo old new → Grows old new
lets-grow old new lets = ([], ap (λ (s : Stored). s.history) lets ∙ sym (append-nil old.history), ap (λ (s : Stored). s.types) lets)

appended-grows : (H : List Event) (w : ℕ) (happened : Option EventKind) → (more : List Event) × (appended H w happened ≡ H ++ more)
appended-grows H w None = ([], sym (append-nil H))
appended-grows H w (Some k) = (record { worker = w; kind = k } ∷ [], refl)

after-grows : (old : Stored) (w : ℕ) (c : Command) → Grows old (stored_after old w c)
after-grows old w c =
    let grown = elim (is_some (refusal_of old c)) as (λ v. (more : List Event) × ((if v then old.history else appended old.history w (event_of (objects old) (summary old.history) c)) ≡ old.history ++ more)) [
      | true ↦ ([], sym (append-nil old.history))
      | false ↦ appended-grows old.history w (event_of (objects old) (summary old.history) c)
    ] in
    (grown.0, grown.1, refl)

steps-grow : {T : Type 0} (old : Stored) (w : ℕ) (c : Command) (r : Result T Refusal) (new : Stored) → Steps old w c r new → Grows old new
steps-grow old w c r new steps = subst (λ (s : Stored). Grows old s) (sym steps.1) (after-grows old w c)

may-grow : {T : Type 0} (old : Stored) (w : ℕ) (c : Command) (r : Result T Refusal) (new : Stored) → MayStep old w c r new → Grows old new
may-grow old w c r new may = elim may [ inl steps ↦ steps-grow old w c r new steps | inr none ↦ same-grows old new none.2 ]

pub peek-same : (clean : Type 0) (answer : AnswerLine) (life : ℕ) (lines : List ObjectLine) (old : Stored) (calls : List AskedCall) (new : Stored) → DoesPeek clean life lines old calls answer new → new ≡ old
peek-same clean (Seen moment replies) life lines old calls new does = does.0
peek-same clean (NothingSeen at) life lines old calls new does = does.0
peek-same clean (Unseen refusal) life lines old calls new does = does.0
peek-same clean answer life lines old calls new does = absurd does

pub states-same : (clean : Type 0) (answer : AnswerLine) (life : ℕ) (lines : List ObjectLine) (old : Stored) (xs : List ObjectWord) (new : Stored) → DoesCommitted clean life lines old xs answer new → new ≡ old
states-same clean (SeenStates moment states) life lines old xs new does = does.0
states-same clean (Refused NoObject) life lines old xs new does = does.0
states-same clean answer life lines old xs new does = absurd does

attempt-grows : (old : Stored) (calls : List CallAt) (came : Attempt) (new : Stored) → AttemptAnswers old 0 calls came new → Grows old new
attempt-grows old calls (attempt.Done ks) new done = (_, ap (λ (s : Stored). s.history) done.events, ap (λ (s : Stored). s.types) done.events)
attempt-grows old calls (attempt.Ended at how) new ended = (_, ap (λ (s : Stored). s.history) ended.events, ap (λ (s : Stored). s.types) ended.events)
attempt-grows old calls (attempt.NotBegun refusal) new none = same-grows old new none.1

-- of a transaction that isn't prepared
unless-grows : {T : Type 0} (prepared : Bool) (old : Stored) (Does : Result T Refusal → Type 0) (r : Result T Denial) (new : Stored) → ((x : Result T Refusal) → Does x → Grows old new) → Unless prepared old Does r new → Grows old new
unless-grows prepared old Does (Ok x) new grows did = grows (Ok x) did.1
unless-grows prepared old Does (Err denied.Prepared) new grows did = same-grows old new did.1
unless-grows prepared old Does (Err (denied.Refused refusal)) new grows did = grows (Err refusal) did.1

unless-step : {T : Type 0} (prepared : Bool) (old : Stored) (c : Command) (r : Result T Denial) (new : Stored) → Unless prepared old (λ (x : Result T Refusal). Steps old 0 c x new) r new → Grows old new
unless-step {T} prepared old c r new did = unless-grows prepared old (λ (x : Result T Refusal). Steps old 0 c x new) r new (λ x steps. steps-grow old 0 c x new steps) did

unless-may : {T : Type 0} (prepared : Bool) (old : Stored) (c : Command) (r : Result T Denial) (new : Stored) → Unless prepared old (λ (x : Result T Refusal). MayStep old 0 c x new) r new → Grows old new
unless-may {T} prepared old c r new did = unless-grows prepared old (λ (x : Result T Refusal). MayStep old 0 c x new) r new (λ x may. may-grow old 0 c x new may) did

commits-under-grow : (prepared : Bool) (old : Stored) (t : ℕ) (came : Keyed Denial) (new : Stored) → CommitsUnder prepared old t came new → Grows old new
commits-under-grow prepared old t (keyed.Done kept) new did = unless-step {T = Unit {0}} prepared old (command.Commit t) (Ok (tt {0})) new did.0
commits-under-grow prepared old t (keyed.Undone why) new did = unless-step {T = Unit {0}} prepared old (command.Commit t) (Err why) new did
commits-under-grow prepared old t (keyed.Known (outcome.Committed replies)) new did = unless-step prepared old (command.Abort t) did.0 new did.1
commits-under-grow prepared old t (keyed.Known outcome.Aborted) new did = same-grows old new did
commits-under-grow prepared old t keyed.Prepared new did = same-grows old new did
commits-under-grow prepared old t keyed.Taken new did = same-grows old new did

attempts-under-grow : (old : Stored) (calls : List CallAt) (came : Keyed Unfinished) (new : Stored) → AttemptsUnder old calls came new → Grows old new
attempts-under-grow old calls (keyed.Done kept) new did = attempt-grows old calls did.0 new did.1.1
attempts-under-grow old calls (keyed.Undone why) new did = attempt-grows old calls did.0 new did.1.1
attempts-under-grow old calls (keyed.Known known) new did = same-grows old new did
attempts-under-grow old calls keyed.Prepared new did = same-grows old new did
attempts-under-grow old calls keyed.Taken new did = same-grows old new did

decides-grow : (old new : Stored) (c now : Contents) (key : List ℕ) (d : Decision) (came : Verdict) → Decides old new c now key d came → Grows old new
decides-grow old new c now key d verdict.Decided did = elim did [ inl ends ↦ steps-grow old 0 (decided_command d ends.p.number) (Ok (tt {0})) new ends.step | inr before ↦ same-grows old new before.1 ]
decides-grow old new c now key d (verdict.Otherwise known) did = same-grows old new did.2
decides-grow old new c now key d verdict.Unknown did = same-grows old new did.2
decides-grow old new c now key d verdict.Taken did = same-grows old new did.1

does-grow : (clean : Type 0) → clean → (most : ℕ) (names : KnownNames) (c : Contents) (ps : List Prepared) (line : List ℕ) (old : Stored) (r : Request) (answer : AnswerLine) (new : Stored) → DoesRequest clean most names c ps line old r answer new → Grows old new
does-grow clean sure most names c ps line old request.Begin answer new does = either (is_epoch_full most old) does (λ p. same-grows old new p.1) (λ p. may-grow old 0 command.Begin p.0 new p.1)
does-grow clean sure most names c ps line old (request.Call t x name) answer new does =
    if-known (number_named names t) does.2 (λ p. same-grows old new p.1) (λ n p. unless-may (is_among (prepared_numbers ps) n) old (command.Call n does.0 name) p.0 new p.1)
does-grow clean sure most names c ps line old (request.Would t x name) answer new does = if-known (number_named names t) does.2 (λ p. same-grows old new p.1) (λ n p. same-grows old new p.0)
does-grow clean sure most names c ps line old (request.Commit t) answer new does =
    if-known (number_named names t) does (λ p. same-grows old new p.1) (λ n p. unless-step (is_among (prepared_numbers ps) n) old (command.Commit n) p.0 new p.1)
does-grow clean sure most names c ps line old (request.CommitUnder t key) answer new does =
    if-known (number_named names t) does (λ p. same-grows old new p.3) (λ n p. commits-under-grow (is_among (prepared_numbers ps) n) old n p.0 new p.2)
does-grow clean sure most names c ps line old (request.Abort t) answer new does =
    if-known (number_named names t) does (λ p. same-grows old new p.1) (λ n p. unless-step (is_among (prepared_numbers ps) n) old (command.Abort n) p.0 new p.1)
does-grow clean sure most names c ps line old (request.Rollback t count) answer new does =
    if-known (number_named names t) does (λ p. same-grows old new p.1) (λ n p. unless-may (is_among (prepared_numbers ps) n) old (command.Rollback n count) p.0 new p.1)
does-grow clean sure most names c ps line old (request.Kept x) answer new does = same-grows old new does.2.0
does-grow clean sure most names c ps line old request.Peek answer new does = same-grows old new (peek-same clean answer names.life c.objects old (calls_asked line) new does)
does-grow clean sure most names c ps line old request.Committed answer new does = same-grows old new (states-same clean answer names.life c.objects old (objects_asked line) new does)
does-grow clean sure most names c ps line old request.Do answer new does = either (is_epoch_full most old) does (λ p. same-grows old new p.1) (λ it. attempt-grows old it.made it.came new it.answers)
does-grow clean sure most names c ps line old (request.DoUnder key) answer new does = either (is_epoch_full most old) does (λ p. same-grows old new p.3) (λ p. attempts-under-grow old p.0 p.2 new p.4)
does-grow clean sure most names c ps line old (request.Outcome key) answer new does = same-grows old new does.3
does-grow clean sure most names c ps line old (request.Prepare t key until) answer new does = same-grows old new does.0
does-grow clean sure most names c ps line old (request.Decide key d) answer new does =
    let decides = does.1 sure in
    decides-grow old new (now_says c old) decides.0 key (decision_of d) does.0 decides.1
does-grow clean sure most names c ps line old request.Prepared answer new does = same-grows old new does.1
does-grow clean sure most names c ps line old (request.Find name) answer new does = same-grows old new does.0
does-grow clean sure most names c ps line old request.Objects answer new does = lets-grow old new does.1
does-grow clean sure most names c ps line old request.Types answer new does = lets-grow old new does.1
does-grow clean sure most names c ps line old (request.Events from count) answer new does = lets-grow old new does.1
does-grow clean sure most names c ps line old request.Stats answer new does = same-grows old new does.1
does-grow clean sure most names c ps line old request.Extend answer new does = same-grows old new does.1
does-grow clean sure most names c ps line old request.End answer new does = same-grows old new does.1

-- what a decision did is known where no wrong answer of the disk was taken as true
pub answered-grows : (clean : Type 0) → clean → (most : ℕ) (names : KnownNames) (c : Contents) (line : List ℕ) (old : Stored) (a : Answered) (new : Stored) → IsAnswered clean most names c line old a new → Grows old new
answered-grows clean sure most names c line old a new answered =
    elim (asked_by line).request as (λ (q : Result Request RequestFault). MatchResult q (λ r. DoesRequest clean most names c answered.prepared line old r a.answer new) (λ fault. (a.answer ≡ Fault fault) × (new ≡ old)) → Grows old new) [
      | Ok r ↦ λ does. does-grow clean sure most names c answered.prepared line old r a.answer new does
      | Err fault ↦ λ told. same-grows old new told.1
    ] answered.request
