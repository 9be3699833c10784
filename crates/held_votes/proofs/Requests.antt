-- What each request leaves of a transaction that is prepared.
use Rattle.std.proofs.Common.{◌≡◌, ◌∙◌, ℕ, ◌<◌, true, false, List, [], Result, Ok, Err, sym, ap, append-nil}
use Rattle.std.specs.Prelude.{◌==◌}
use Rattle.type_table.proofs.Elements.{eqb-sym}
use Rattle.serial_order.specs.History.{begins}
use Rattle.serial_order.specs.Operations.{is_among}
use Rattle.serial_order.specs.declared.command.Command.{Command}
use Rattle.serial_order.specs.declared.command.Command.TheVariants as command
use Rattle.serial_order.specs.declared.refusal.Refusal.{Refusal}
use Rattle.serial_order.proofs.Lists.{is_among-apart}
use Rattle.store_laws.specs.Stored.{MayStep, Steps, Stored}
use Rattle.attempts.specs.Commands.{CallAt}
use Rattle.journal.specs.declared.outcome_row.Outcome.TheVariants as outcome
use Rattle.journal.specs.declared.prepared_row.Prepared.{Prepared}
use Rattle.journal.specs.Contents.{Contents}
use Rattle.durable_store.specs.Held.{Unless, prepared_numbers}
use Rattle.durable_store.specs.Keys.{AttemptsUnder, CommitsUnder}
use Rattle.durable_store.specs.declared.denial.Denial.{Denial}
use Rattle.durable_store.specs.declared.denial.Denial.TheVariants as denied
use Rattle.durable_store.specs.declared.keyed.Keyed.{Keyed}
use Rattle.durable_store.specs.declared.keyed.Keyed.TheVariants as keyed
use Rattle.durable_store.specs.declared.keyed.Unfinished.{Unfinished}
use Rattle.request_text.specs.Requests.{calls_asked, objects_asked}
use Rattle.request_text.specs.declared.request.Request.{Request}
use Rattle.request_text.specs.declared.request.Request.TheVariants as request
use Rattle.serving.specs.declared.answer_line.AnswerLine.{AnswerLine}
use Rattle.serving.specs.Does.{is_epoch_full}
use Rattle.serving.specs.Names.{KnownNames, number_named}
use Rattle.serving.specs.Requests.{DoesRequest, LetsGo}
use Rattle.serving.proofs.Growth.{peek-same, states-same}
use Rattle.serving.proofs.InTurns.{either, if-known}
use Rattle.held_votes.proofs.Commands.{GoesBeside, IsOfOthers, attempt-beside, may-beside, stays-beside, step-beside}

-- a store that lets go of events
lets-beside : (n : ℕ) (old new : Stored) → LetsGo old new → GoesBeside n old new
lets-beside n old new lets = ([], ap (λ (s : Stored). s.history) lets ∙ sym (append-nil old.history), tt)

-- whoever isn't one of these isn't the one that is
pub other-among : (those : List ℕ) (n t : ℕ) → is_among those n ≡ true → is_among those t ≡ false → (t == n) ≡ false
other-among those n t inside out = eqb-sym t n ∙ is_among-apart those t n out inside

module _ (n : ℕ) (those : List ℕ) (inside : is_among those n ≡ true) where
  -- of a transaction that isn't prepared
  unless-beside : {T : Type 0} (t : ℕ) (old : Stored) (Does : Result T Refusal → Type 0) (r : Result T Denial) (new : Stored) → ((x : Result T Refusal) → (t == n) ≡ false → Does x → GoesBeside n old new)
      → Unless (is_among those t) old Does r new → GoesBeside n old new
  unless-beside t old Does (Ok x) new goes did = goes (Ok x) (other-among those n t inside did.0) did.1
  unless-beside t old Does (Err denied.Prepared) new goes did = stays-beside n old new did.1
  unless-beside t old Does (Err (denied.Refused refusal)) new goes did = goes (Err refusal) (other-among those n t inside did.0) did.1

  unless-step : {T : Type 0} (t : ℕ) (old : Stored) (c : Command) (r : Result T Denial) (new : Stored) → ((t == n) ≡ false → IsOfOthers n c) → Unless (is_among those t) old (λ (x : Result T Refusal). Steps old 0 c x new) r new
      → GoesBeside n old new
  unless-step {T} t old c r new others did = unless-beside t old (λ (x : Result T Refusal). Steps old 0 c x new) r new (λ x other steps. step-beside n old c x new (others other) steps) did

  unless-may : {T : Type 0} (t : ℕ) (old : Stored) (c : Command) (r : Result T Denial) (new : Stored) → ((t == n) ≡ false → IsOfOthers n c) → Unless (is_among those t) old (λ (x : Result T Refusal). MayStep old 0 c x new) r new
      → GoesBeside n old new
  unless-may {T} t old c r new others did = unless-beside t old (λ (x : Result T Refusal). MayStep old 0 c x new) r new (λ x other may. may-beside n old c x new (others other) may) did

  commits-beside : (old : Stored) (t : ℕ) (came : Keyed Denial) (new : Stored) → CommitsUnder (is_among those t) old t came new → GoesBeside n old new
  commits-beside old t (keyed.Done kept) new did = unless-step {T = Unit {0}} t old (command.Commit t) (Ok (tt {0})) new (λ other. other) did.0
  commits-beside old t (keyed.Undone why) new did = unless-step {T = Unit {0}} t old (command.Commit t) (Err why) new (λ other. other) did
  commits-beside old t (keyed.Known (outcome.Committed replies)) new did = unless-step t old (command.Abort t) did.0 new (λ other. other) did.1
  commits-beside old t (keyed.Known outcome.Aborted) new did = stays-beside n old new did
  commits-beside old t keyed.Prepared new did = stays-beside n old new did
  commits-beside old t keyed.Taken new did = stays-beside n old new did

attempts-under-beside : (n : ℕ) (old : Stored) (calls : List CallAt) (came : Keyed Unfinished) (new : Stored) → n < begins old.history → AttemptsUnder old calls came new → GoesBeside n old new
attempts-under-beside n old calls (keyed.Done kept) new low did = attempt-beside n old calls did.0 new low did.1.1
attempts-under-beside n old calls (keyed.Undone why) new low did = attempt-beside n old calls did.0 new low did.1.1
attempts-under-beside n old calls (keyed.Known known) new low did = stays-beside n old new did
attempts-under-beside n old calls keyed.Prepared new low did = stays-beside n old new did
attempts-under-beside n old calls keyed.Taken new low did = stays-beside n old new did

-- a request but a decision doesn't concern it
abbrev pub LeavesAlone : ℕ → Stored → Stored → Request → Type 0
LeavesAlone n old new (request.Decide key d) = Unit {0}
LeavesAlone n old new r = GoesBeside n old new

pub request-beside : (most : ℕ) (names : KnownNames) (c : Contents) (ps : List Prepared) (line : List ℕ) (old : Stored) (r : Request) (answer : AnswerLine) (new : Stored) (n : ℕ)
    → DoesRequest (Unit {0}) most names c ps line old r answer new → is_among (prepared_numbers ps) n ≡ true → n < begins old.history → LeavesAlone n old new r
request-beside most names c ps line old request.Begin answer new n does inside low =
    either (is_epoch_full most old) does (λ p. stays-beside n old new p.1) (λ p. may-beside n old command.Begin p.0 new tt p.1)
request-beside most names c ps line old (request.Call t x name) answer new n does inside low =
    if-known (number_named names t) does.2 (λ p. stays-beside n old new p.1) (λ u p. unless-may n (prepared_numbers ps) inside u old (command.Call u does.0 name) p.0 new (λ other. other) p.1)
request-beside most names c ps line old (request.Would t x name) answer new n does inside low = if-known (number_named names t) does.2 (λ p. stays-beside n old new p.1) (λ u p. stays-beside n old new p.0)
request-beside most names c ps line old (request.Commit t) answer new n does inside low =
    if-known (number_named names t) does (λ p. stays-beside n old new p.1) (λ u p. unless-step n (prepared_numbers ps) inside u old (command.Commit u) p.0 new (λ other. other) p.1)
request-beside most names c ps line old (request.CommitUnder t key) answer new n does inside low =
    if-known (number_named names t) does (λ p. stays-beside n old new p.3) (λ u p. commits-beside n (prepared_numbers ps) inside old u p.0 new p.2)
request-beside most names c ps line old (request.Abort t) answer new n does inside low =
    if-known (number_named names t) does (λ p. stays-beside n old new p.1) (λ u p. unless-step n (prepared_numbers ps) inside u old (command.Abort u) p.0 new (λ other. other) p.1)
request-beside most names c ps line old (request.Rollback t count) answer new n does inside low =
    if-known (number_named names t) does (λ p. stays-beside n old new p.1) (λ u p. unless-may n (prepared_numbers ps) inside u old (command.Rollback u count) p.0 new (λ other. other) p.1)
request-beside most names c ps line old (request.Kept x) answer new n does inside low = stays-beside n old new does.2.0
request-beside most names c ps line old request.Peek answer new n does inside low = stays-beside n old new (peek-same (Unit {0}) answer names.life c.objects old (calls_asked line) new does)
request-beside most names c ps line old request.Committed answer new n does inside low = stays-beside n old new (states-same (Unit {0}) answer names.life c.objects old (objects_asked line) new does)
request-beside most names c ps line old request.Do answer new n does inside low = either (is_epoch_full most old) does (λ p. stays-beside n old new p.1) (λ it. attempt-beside n old it.made it.came new low it.answers)
request-beside most names c ps line old (request.DoUnder key) answer new n does inside low = either (is_epoch_full most old) does (λ p. stays-beside n old new p.3) (λ p. attempts-under-beside n old p.0 p.2 new low p.4)
request-beside most names c ps line old (request.Outcome key) answer new n does inside low = stays-beside n old new does.3
request-beside most names c ps line old (request.Prepare t key until) answer new n does inside low = stays-beside n old new does.0
request-beside most names c ps line old (request.Decide key d) answer new n does inside low = tt
request-beside most names c ps line old request.Prepared answer new n does inside low = stays-beside n old new does.1
request-beside most names c ps line old (request.Find name) answer new n does inside low = stays-beside n old new does.0
request-beside most names c ps line old request.Objects answer new n does inside low = lets-beside n old new does.1
request-beside most names c ps line old request.Types answer new n does inside low = lets-beside n old new does.1
request-beside most names c ps line old (request.Events from count) answer new n does inside low = lets-beside n old new does.1
request-beside most names c ps line old request.Stats answer new n does inside low = stays-beside n old new does.1
request-beside most names c ps line old request.Extend answer new n does inside low = stays-beside n old new does.1
request-beside most names c ps line old request.End answer new n does inside low = stays-beside n old new does.1
