-- Answers that no crash takes away are found.
use Rattle.std.proofs.Common.{◌≡◌, ◌∙◌, ℕ, true, false, Result, List, [], ◌∷◌, ◌++◌, refl, sym, ap, subst}
use Rattle.std.proofs.lemmas.List.Elements.{Contains-append_right, Contains-push}
use Rattle.std.specs.Prelude.{Contains, MatchResult}
use Rattle.sqlite_trees.specs.declared.store.Store.{Ghosts}
use Rattle.object_trait.specs.declared.event.EventKind.{EventKind}
use Rattle.object_trait.specs.declared.event.EventKind.TheVariants.{Begin, Commit}
use Rattle.serial_order.specs.History.{begins}
use Rattle.store_laws.specs.Stored.{Stored}
use Rattle.attempts.specs.declared.outcome.Attempt.{Attempt}
use Rattle.attempts.specs.declared.outcome.Attempt.TheVariants as attempt
use Rattle.attempts.specs.declared.outcome.Ending.{Ending}
use Rattle.attempts.specs.declared.outcome.Ending.TheVariants as ending
use Rattle.attempts.specs.Commands.{CallAt}
use Rattle.attempts.specs.Answers.{AttemptAnswers, operation_events}
use Rattle.event_text.specs.EventText.{events_of_kinds}
use Rattle.journal.specs.Contents.{Contents}
use Rattle.durable_store.specs.declared.durable.Durable.{Durable}
use Rattle.durable_store.specs.Durable.{kinds}
use Rattle.request_text.specs.Requests.{calls_asked}
use Rattle.request_text.specs.declared.fault.RequestFault.{RequestFault}
use Rattle.request_text.specs.declared.request.Request.{Request}
use Rattle.request_text.specs.declared.request.Request.TheVariants as request
use Rattle.serving.specs.declared.answer_line.AnswerLine.{AnswerLine}
use Rattle.serving.specs.declared.answer_line.AnswerLine.TheVariants.{Completed, CompletedOne, Fault}
use Rattle.serving.specs.declared.answer_line.Answered.{Answered}
use Rattle.serving.specs.AnswersFound.{AnswersAreFound, AnswersDone, IsIt, TransactionsAreFound, is_completed}
use Rattle.serving.specs.Does.{is_epoch_full}
use Rattle.serving.specs.Left.{Began, Survives}
use Rattle.serving.specs.Lines.{AreLines}
use Rattle.serving.specs.Names.{KnownNames}
use Rattle.serving.specs.Requests.{DoesRequest}
use Rattle.serving.specs.Served.{IsAnswered}
use Rattle.serving.specs.Several.{Attempts, TellsAttempt, ended_answer}
use Rattle.serving.specs.Told.{is_lasting}
use Rattle.serving.proofs.InTurns.{either}
use Rattle.serving.proofs.Moments.{file-goes, kinds-append, kinds-events, serves-moment, tells-left}
use Rattle.serving.proofs.Places.{Lasts}

-- ---- any lasting answer

pub it-lasts : (line : List ℕ) (a : Answered) → is_lasting a.answer ≡ true → Lasts (IsIt line a)
it-lasts line a lasting l x it = ap (λ (y : Answered). is_lasting y.answer) it.1 ∙ lasting

pub answers-found : {S : Type 0} (g : Ghosts S) (b : Began) (last : List (List ℕ) → Type 0) (seen rest half : List ℕ) (lines : List (List ℕ)) (answers : List Answered) (now : Durable S) → AreLines seen lines half
    → Survives g b last (seen ++ rest) answers now → AnswersAreFound g b last lines answers now
answers-found g b last seen rest half lines answers now asked survives line a lasting told db left =
    let (waiting, it) = (survives db left).1 in
    let tells = tells-left seen rest half lines (IsIt line a) (it-lasts line a lasting) asked it told in
    let m = serves-moment tt it.file.serves (IsIt line a) (it-lasts line a lasting) tells in
    let (since, happened) = file-goes m.names.life m.new it.file.file m.goes_on in
    record {
      lines = it.lines;
      done = it.done;
      file = it.file;
      tells = tells;
      most = m.most;
      names = m.names;
      said = m.said;
      old = m.old;
      new = m.new;
      answered = subst (λ x. IsAnswered (Unit {0}) m.most m.names m.said line m.old x m.new) m.claims.1 (subst (λ l. IsAnswered (Unit {0}) m.most m.names m.said l m.old m.a m.new) m.claims.0 m.answered);
      goes_on = m.goes_on;
      since = since;
      happened = happened;
    }

-- ---- that of a whole transaction

completed-lasts : (answer : AnswerLine) → is_completed answer ≡ true → is_lasting answer ≡ true
completed-lasts (Completed replies) it = refl
completed-lasts (CompletedOne reply) it = refl
completed-lasts answer it = absurd cc

ended-isnt : (names : KnownNames) (at : ℕ) (how : Ending) → is_completed (ended_answer names at how) ≡ false
ended-isnt names at (ending.Busy u) = refl
ended-isnt names at ending.None = refl
ended-isnt names at (ending.Refused refusal) = refl

-- the commit is the last event
attempt-commits : (old new : Stored) (names : KnownNames) (calls : List CallAt) (came : Attempt) (answer : AnswerLine) → AttemptAnswers old 0 calls came new → TellsAttempt new names calls came answer → is_completed answer ≡ true
    → Contains (kinds new.history) (Commit (begins old.history))
attempt-commits old new names calls (attempt.Done ks) answer done tells completed =
    let n = begins old.history in
    let happened : List EventKind = Begin n ∷ (operation_events n calls ks.items ++ Commit n ∷ []) in
    subst (λ (s : Stored). Contains (kinds s.history) (Commit n)) (sym done.events)
    (subst (λ xs. Contains xs (Commit n)) (sym (kinds-append old.history (events_of_kinds happened) ∙ ap (λ xs. kinds old.history ++ xs) (kinds-events happened)))
    (Contains-append_right (kinds old.history) happened (Commit n) (Contains-push (Begin n ∷ operation_events n calls ks.items) (Commit n))))
attempt-commits old new names calls (attempt.Ended at how) answer ended tells completed = absurd (let it : true ≡ false = sym completed ∙ ap is_completed tells ∙ ended-isnt names at how in cc)
attempt-commits old new names calls (attempt.NotBegun refusal) answer none tells completed = absurd (let it : true ≡ false = sym completed ∙ ap is_completed tells in cc)

done-does : (most : ℕ) (names : KnownNames) (c : Contents) (line : List ℕ) (old : Stored) (a : Answered) (new : Stored) → AnswersDone line a → (answered : IsAnswered (Unit {0}) most names c line old a new)
    → Attempts (Unit {0}) names c.objects old (calls_asked line) a.answer new
done-does most names c line old a new asks answered =
    let does : DoesRequest (Unit {0}) most names c answered.prepared line old request.Do a.answer new =
    subst (λ (q : Result Request RequestFault). MatchResult q (λ r. DoesRequest (Unit {0}) most names c answered.prepared line old r a.answer new) (λ fault. (a.answer ≡ Fault fault) × (new ≡ old))) asks.0 answered.request in
    either (is_epoch_full most old) does (λ p. absurd (let it : true ≡ false = sym asks.1 ∙ ap is_completed p.0 in cc)) (λ it. it)

pub transactions-found : {S : Type 0} (g : Ghosts S) (b : Began) (last : List (List ℕ) → Type 0) (seen rest half : List ℕ) (lines : List (List ℕ)) (answers : List Answered) (now : Durable S) → AreLines seen lines half
    → Survives g b last (seen ++ rest) answers now → TransactionsAreFound g b last lines answers now
transactions-found g b last seen rest half lines answers now asked survives line a asks told db left =
    let found = answers-found g b last seen rest half lines answers now asked survives line a (completed-lasts a.answer asks.1) told db left in
    let did = done-does found.most found.names found.said line found.old a found.new asks found.answered in
    record {
      found = found;
      did = did;
      committed = attempt-commits found.old found.new found.names did.made did.came a.answer did.answers did.tells asks.1;
    }
