-- What was answered holds under a stronger premise too.
use Rattle.std.proofs.Common.{◌≡◌, ◌∙◌, inl, inr, ℕ, Bool, true, false, List, [], ◌∷◌, take, Option, Some, None, Result, Ok, Err, refl, sym, ap, subst}
use Rattle.std.specs.Prelude.{MatchBool, MatchOption, MatchResult}
use Rattle.object_trait.specs.declared.event.EventKind.{EventKind}
use Rattle.store_laws.specs.Stored.{Stored}
use Rattle.store_text.specs.declared.line.ObjectLine.{ObjectLine}
use Rattle.event_text.specs.EventText.{events_of_kinds}
use Rattle.journal.specs.Contents.{Contents}
use Rattle.serial_order.specs.declared.refusal.Refusal.TheVariants.{NoObject}
use Rattle.store.specs.declared.refusals.PeekRefusal.{PeekRefusal}
use Rattle.attempts.specs.Commands.{CallAt}
use Rattle.request_text.specs.Requests.{asked_by, calls_asked, objects_asked}
use Rattle.request_text.specs.declared.fault.RequestFault.{RequestFault}
use Rattle.request_text.specs.declared.request.Asked.{Asked}
use Rattle.request_text.specs.declared.request.AskedCall.{AskedCall}
use Rattle.request_text.specs.declared.request.Request.{Request}
use Rattle.request_text.specs.declared.request.Request.TheVariants as request
use Rattle.serving.specs.declared.answer_line.AnswerLine.{AnswerLine}
use Rattle.serving.specs.declared.answer_line.AnswerLine.TheVariants.{Fault, Objects, Types, Events, Draining, Seen, SeenStates, NothingSeen, Unseen, Refused}
use Rattle.serving.specs.declared.answer_line.Answered.{Answered}
use Rattle.serving.specs.declared.extension.Extension.{Extension}
use Rattle.serving.specs.NextEpoch.{SaysSame, begin_limit, full_with}
use Rattle.std.specs.Prelude.{length, unwrap_or}
use Rattle.durable_store.specs.Names.{find_named}
use Rattle.request_text.specs.declared.request.ObjectWord.{ObjectWord}
use Rattle.request_text.specs.declared.request.ObjectWord.TheVariants.{Number, Name}
use Rattle.serving.specs.Does.{is_epoch_full}
use Rattle.serving.specs.Means.{Means}
use Rattle.serving.specs.Several.{IsCallAt, Attempts, DoesCommitted, DoesPeek, InTurn, IsAnsweredThere, IsFirstWithout, IsRepliedThere}
use Rattle.journal.specs.declared.prepared_row.Prepared.{Prepared}
use Rattle.durable_store.specs.Durable.{kinds}
use Rattle.durable_store.specs.Held.{undecided}
use Rattle.serving.specs.Requests.{DoesRequest, TellsEvents, TellsObjects, TellsTypes}
use Rattle.serving.specs.Served.{IsAnswered, Serves}
use Rattle.serving.specs.Names.{KnownNames, number_named}
use Rattle.serving.specs.Prepared.{decision_of, prepared_as}
use Rattle.serving.proofs.ByteByByte.{AskSame}
use Rattle.serving.proofs.SameSaid.{decides-as, knows-as, state-as, votes-as}

module _ {clean clean' : Type 0} (sure : clean' → clean) where
  -- ---- what is read of a file that says the same

  tells-objects : (answer : AnswerLine) (was now : List ObjectLine) → (clean' → was ≡ now) → TellsObjects clean answer was → TellsObjects clean' answer now
  tells-objects (Objects told) was now same tells = λ c. tells (sure c) ∙ same c
  tells-objects answer was now same tells = absurd tells

  tells-types : (answer : AnswerLine) (was now : List (List ℕ)) → (clean' → was ≡ now) → TellsTypes clean answer was → TellsTypes clean' answer now
  tells-types (Types told) was now same tells = λ c. tells (sure c) ∙ same c
  tells-types answer was now same tells = absurd tells

  tells-events : (answer : AnswerLine) (events : List EventKind) → TellsEvents clean answer events → TellsEvents clean' answer events
  tells-events (Events told) events tells = λ c. tells (sure c)
  tells-events answer events tells = absurd tells

  pub means-before : (x : ObjectWord) (n : ℕ) (was now : List ObjectLine) → (clean' → was ≡ now) → Means clean was x n → Means clean' now x n
  means-before (Number x) n was now same means = means
  means-before (Name w) n was now same means = λ c. means (sure c) ∙ ap (λ os. unwrap_or (find_named os w) (length os)) (same c)

  -- ---- several at once

  in-turn : {A B : Type 0} {P Q : A → B → Type 0} → ((x : A) (y : B) → P x y → Q x y) → (xs : List A) (ys : List B) → InTurn P xs ys → InTurn Q xs ys
  in-turn weaker [] [] all = all
  in-turn weaker (x ∷ xs) (y ∷ ys) all = (weaker x y all.0, in-turn weaker xs ys all.1)
  in-turn weaker [] (y ∷ ys) all = absurd all
  in-turn weaker (x ∷ xs) [] all = absurd all

  replied-before : (was now : List ObjectLine) (s : Stored) → (clean' → was ≡ now) → (call : AskedCall) (reply : Option (List ℕ)) → IsRepliedThere clean was s call reply → IsRepliedThere clean' now s call reply
  replied-before was now s same call reply it = record { x = it.x; means = means-before call.x it.x was now same it.means; found = it.found; peeked = it.peeked; told = it.told }

  there-before : (was now : List ObjectLine) (s : Stored) → (clean' → was ≡ now) → (call : AskedCall) (why : Result (Option (List ℕ)) PeekRefusal) → IsAnsweredThere clean was s call why → IsAnsweredThere clean' now s call why
  there-before was now s same call (Ok reply) it = replied-before was now s same call reply it
  there-before was now s same call (Err refusal) it = (it.0, means-before call.x it.0 was now same it.1, it.2)

  first-before : (was now : List ObjectLine) (s : Stored) → (clean' → was ≡ now) → (calls : List AskedCall) (at : ℕ) (why : Result (Option (List ℕ)) PeekRefusal) → IsFirstWithout clean was s calls at why → IsFirstWithout clean' now s calls at why
  first-before was now s same calls at why it = record {
    call = it.call;
    there = it.there;
    replies = it.replies;
    before = in-turn (λ call reply. replied-before was now s same call (Some reply)) (take at calls) it.replies it.before;
    comes = there-before was now s same it.call why it.comes;
  }

  peeks-before : (answer : AnswerLine) (life : ℕ) (was now : List ObjectLine) (old : Stored) (calls : List AskedCall) (new : Stored) → (clean' → was ≡ now) → DoesPeek clean life was old calls answer new → DoesPeek clean' life now old calls answer new
  peeks-before (Seen moment replies) life was now old calls new same does = (does.0, does.1, in-turn (λ call reply. replied-before was now old same call (Some reply)) calls replies.items does.2)
  peeks-before (NothingSeen at) life was now old calls new same does = (does.0, first-before was now old same calls at (Ok None) does.1)
  peeks-before (Unseen refusal) life was now old calls new same does = (does.0, does.1, first-before was now old same calls does.1 (Err refusal) does.2)
  peeks-before answer life was now old calls new same does = absurd does

  states-before : (answer : AnswerLine) (life : ℕ) (was now : List ObjectLine) (old : Stored) (xs : List ObjectWord) (new : Stored) → (clean' → was ≡ now) → DoesCommitted clean life was old xs answer new → DoesCommitted clean' life now old xs answer new
  states-before (SeenStates moment states) life was now old xs new same does = (does.0, does.1, in-turn (λ x state it. (it.0, means-before x it.0 was now same it.1, it.2)) xs states.items does.2)
  states-before (Refused NoObject) life was now old xs new same does = (does.0, does.1, does.2, does.3, means-before does.1 does.3 was now same does.4, does.5)
  states-before answer life was now old xs new same does = absurd does

  pub called-before : (was now : List ObjectLine) → (clean' → was ≡ now) → (calls : List AskedCall) (made : List CallAt) → InTurn (IsCallAt clean was) calls made → InTurn (IsCallAt clean' now) calls made
  called-before was now same calls made = in-turn (λ call at is. (means-before call.x at.0 was now same is.0, is.1)) calls made

  pub attempts-before : (answer : AnswerLine) (names : KnownNames) (was now : List ObjectLine) (old : Stored) (calls : List AskedCall) (new : Stored) → (clean' → was ≡ now) → Attempts clean names was old calls answer new → Attempts clean' names now old calls answer new
  attempts-before answer names was now old calls new same it = record {
    made = it.made;
    are_made = called-before was now same calls it.made it.are_made;
    came = it.came;
    replays = it.replays;
    answers = it.answers;
    tells = it.tells;
  }

  whole-before : (full : Bool) (answer : AnswerLine) (names : KnownNames) (was now : List ObjectLine) (old : Stored) (calls : List AskedCall) (new : Stored) → (clean' → was ≡ now)
      → MatchBool full ((answer ≡ Draining) × (new ≡ old)) (Attempts clean names was old calls answer new) → MatchBool full ((answer ≡ Draining) × (new ≡ old)) (Attempts clean' names now old calls answer new)
  whole-before true answer names was now old calls new same does = does
  whole-before false answer names was now old calls new same does = attempts-before answer names was now old calls new same does

  -- ---- requests

  -- each of two cases
  match-before : (test : Bool) {P Q P' Q' : Type 0} → (P → P') → (Q → Q') → MatchBool test P Q → MatchBool test P' Q'
  match-before true first second it = first it
  match-before false first second it = second it

  known-before : {P P' : Type 0} {Q Q' : ℕ → Type 0} (found : Option ℕ) → (P → P') → ((n : ℕ) → Q n → Q' n) → MatchOption found P Q → MatchOption found P' Q'
  known-before None none some it = none it
  known-before (Some n) none some it = some n it

  -- over a file that says the same
  done-before : (most : ℕ) (names : KnownNames) (c d : Contents) (ps : List Prepared) (line : List ℕ) (old : Stored) (r : Request) (answer : AnswerLine) (new : Stored) → (clean' → SaysSame c d)
      → DoesRequest clean most names d ps line old r answer new → DoesRequest clean' most names c ps line old r answer new
  done-before most names c d ps line old request.Begin answer new same does = does
  done-before most names c d ps line old (request.Call t x name) answer new same does = (does.0, means-before x does.0 d.objects c.objects (λ now. (same now).0) does.1, does.2)
  done-before most names c d ps line old (request.Would t x name) answer new same does = (does.0, means-before x does.0 d.objects c.objects (λ now. (same now).0) does.1, does.2)
  done-before most names c d ps line old (request.Commit t) answer new same does = does
  done-before most names c d ps line old (request.CommitUnder t key) answer new same does =
      known-before (number_named names t) (λ it. (it.0, (λ now. state-as c d old (same now) key it.0 (it.1 (sure now))), it.2, it.3))
      (λ n it. (it.0, (λ now. knows-as c d old (same now) key it.0 (it.1 (sure now))), it.2, it.3)) does
  done-before most names c d ps line old (request.Abort t) answer new same does = does
  done-before most names c d ps line old (request.Rollback t count) answer new same does = does
  done-before most names c d ps line old (request.Kept x) answer new same does = (does.0, means-before x does.0 d.objects c.objects (λ now. (same now).0) does.1, does.2)
  done-before most names c d ps line old request.Peek answer new same does = peeks-before answer names.life d.objects c.objects old (calls_asked line) new (λ now. (same now).0) does
  done-before most names c d ps line old request.Committed answer new same does = states-before answer names.life d.objects c.objects old (objects_asked line) new (λ now. (same now).0) does
  done-before most names c d ps line old request.Do answer new same does = whole-before (is_epoch_full most old) answer names d.objects c.objects old (calls_asked line) new (λ now. (same now).0) does
  done-before most names c d ps line old (request.DoUnder key) answer new same does =
      match-before (is_epoch_full most old) (λ it. (it.0, (λ now. state-as c d old (same now) key it.0 (it.1 (sure now))), it.2, it.3))
      (λ it. (
        it.0,
        called-before d.objects c.objects (λ now. (same now).0) (calls_asked line) it.0 it.1,
        it.2,
        (λ now. knows-as c d old (same now) key it.2 (it.3 (sure now))),
        it.4,
        it.5,
      )) does
  done-before most names c d ps line old (request.Outcome key) answer new same does =
      (does.0, (λ now. state-as c d old (same now) key does.0 (does.1 (sure now))), does.2, does.3)
  done-before most names c d ps line old (request.Prepare t key until) answer new same does = (
    does.0,
    known-before (number_named names t) (λ told. told) (λ n it. (it.0, (λ now. let votes = it.1 (sure now) in votes-as c d old (same now) (prepared_as t n key until) it.0 votes.0 votes.1), it.2)) does.1,
  )
  done-before most names c d ps line old (request.Decide key e) answer new same does =
      (does.0, (λ now. let decides = does.1 (sure now) in decides-as c d old (same now) new key (decision_of e) does.0 decides.0 decides.1), does.2)
  done-before most names c d ps line old request.Prepared answer new same does = does
  done-before most names c d ps line old (request.Find name) answer new same does = (does.0, does.1, does.2, λ now. does.3 (sure now) ∙ ap (λ os. find_named os name) (same now).0)
  done-before most names c d ps line old request.Objects answer new same does = (tells-objects answer d.objects c.objects (λ now. (same now).0) does.0, does.1)
  done-before most names c d ps line old request.Types answer new same does = (tells-types answer d.types c.types (λ now. (same now).1) does.0, does.1)
  done-before most names c d ps line old (request.Events from count) answer new same does = (tells-events answer _ does.0, does.1)
  done-before most names c d ps line old request.Stats answer new same does = does
  done-before most names c d ps line old request.Extend answer new same does = does
  done-before most names c d ps line old request.End answer new same does = does

  -- a line that asks the same
  pub answered-before : (most : ℕ) (names : KnownNames) (c d : Contents) (kept half : List ℕ) (old : Stored) (a : Answered) (new : Stored) → (clean' → SaysSame c d)
      → AskSame kept half → IsAnswered clean most names d kept old a new → IsAnswered clean' most names c half old a new
  answered-before most names c d kept half old a new files (inl same) answered = subst (λ line. IsAnswered clean' most names c line old a new) same (record {
    tag = answered.tag;
    prepared = answered.prepared;
    are = λ now. answered.are (sure now) ∙ ap (undecided (events_of_kinds (kinds old.history))) (files now).3;
    request =
        elim (asked_by kept).request as (λ (q : Result Request RequestFault). MatchResult q (λ r. DoesRequest clean most names d answered.prepared kept old r a.answer new) (λ fault. (a.answer ≡ Fault fault) × (new ≡ old))
        → MatchResult q (λ r. DoesRequest clean' most names c answered.prepared kept old r a.answer new) (λ fault. (a.answer ≡ Fault fault) × (new ≡ old))) [
          | Ok r ↦ λ does. done-before most names c d answered.prepared kept old r a.answer new files does
          | Err fault ↦ λ told. told
        ] answered.request;
  })
  answered-before most names c d kept half old a new files (inr (first, second)) answered = record {
    tag = answered.tag ∙ ap (λ (x : Asked). x.tag) (first ∙ sym second);
    prepared = answered.prepared;
    are = λ now. answered.are (sure now) ∙ ap (undecided (events_of_kinds (kinds old.history))) (files now).3;
    request =
        subst (λ (x : Asked). MatchResult x.request (λ r. DoesRequest clean' most names c answered.prepared half old r a.answer new) (λ fault. (a.answer ≡ Fault fault) × (new ≡ old))) (sym second)
        (subst (λ (x : Asked). MatchResult x.request (λ r. DoesRequest clean most names d answered.prepared kept old r a.answer new) (λ fault. (a.answer ≡ Fault fault) × (new ≡ old))) first answered.request);
  }

  -- ---- lines

  pub serves-weaker : {most : ℕ} {c : Contents} {first : KnownNames} {lines : List (List ℕ)} {old : Stored} {answers : List Answered} {names : KnownNames} {said : Contents} {new : Stored} {ended : Option Asked} {waits : Option Extension}
      → Serves clean most c first lines old answers names said new ended waits → Serves clean' most c first lines old answers names said new ended waits
  serves-weaker (Serves.none s) = Serves.none s
  serves-weaker {most} (Serves.line lines asked old mid new answers a names said waits goes before other may strong answered) =
      Serves.line lines asked old mid new answers a names said waits goes (serves-weaker before) other may strong
      (answered-before (begin_limit goes waits (full_with most names)) names said said asked asked mid a new (λ now. (refl, refl, refl, refl)) (inl refl) answered)
  serves-weaker (Serves.more lines asked old new answers a names said waits before may more) = Serves.more lines asked old new answers a names said waits (serves-weaker before) may more
  serves-weaker (Serves.end lines asked old new answers names said waits before ends) = Serves.end lines asked old new answers names said waits (serves-weaker before) ends
  serves-weaker (Serves.forget lines old mid answers names n said ended waits before) = Serves.forget lines old mid answers names n said ended waits (serves-weaker before)
  serves-weaker (Serves.epoch lines old mid new answers names next said now waits goes ps new_ps before full strong renews over counted are follows says) =
      Serves.epoch lines old mid new answers names next said now waits goes ps new_ps (serves-weaker before) full strong renews over counted (λ clean_now. are (sure clean_now)) (λ clean_now. follows (sure clean_now))
      (λ clean_now. says (sure clean_now))
