-- What was answered under keys stays so.
use Rattle.std.proofs.Common.{◌≡◌, ◌∙◌, inl, Bool, inr, ℕ, true, false, List, [], ◌∷◌, ◌++◌, Option, Some, None, Result, Ok, Err, refl, sym, ap, subst, append-nil}
use Rattle.std.proofs.lemmas.List.{append_assoc}
use Rattle.std.proofs.lemmas.Bool.{cases_eq, eq-eqb, ne_eqb}
use Rattle.std.proofs.lemmas.Slice.Eq.{bytes_eq-Decides}
use Rattle.std.specs.Prelude.{MatchResult}
use Rattle.sqlite_trees.specs.declared.store.Store.{Ghosts}
use Rattle.transaction_key.specs.TransactionKey.{key_place}
use Rattle.store_laws.specs.Stored.{Stored}
use Rattle.attempts.specs.declared.outcome.Ending.{Ending}
use Rattle.attempts.specs.declared.outcome.Ending.TheVariants as ending
use Rattle.journal.specs.declared.outcome_row.KeyedOutcome.{KeyedOutcome}
use Rattle.journal.specs.declared.outcome_row.Outcome.{Outcome}
use Rattle.journal.specs.declared.outcome_row.Outcome.TheVariants.{Aborted, Committed}
use Rattle.journal.specs.Contents.{Contents}
use Rattle.journal.specs.Outcomes.{Outcomes, StaysKnown, let_go}
use Rattle.journal.proofs.StaysKnown.{stays-let-go, stays-same, stays-then, stays-with}
use Rattle.durable_store.specs.declared.durable.Durable.{Durable}
use Rattle.durable_store.specs.Durable.{prepared_in}
use Rattle.durable_store.specs.Keys.{IsInState, KnowsKey, outcome_for, outcome_under}
use Rattle.durable_store.specs.declared.denial.Denial.{Denial}
use Rattle.durable_store.specs.declared.denial.Denial.TheVariants as denied
use Rattle.journal.specs.declared.prepared_row.Prepared.{Prepared}
use Rattle.durable_store.specs.declared.keyed.Keyed.{Keyed}
use Rattle.durable_store.specs.declared.keyed.Keyed.TheVariants as keyed
use Rattle.durable_store.specs.declared.keyed.KeyState.{KeyState}
use Rattle.durable_store.specs.declared.keyed.KeyState.TheVariants as state
use Rattle.durable_store.specs.declared.keyed.Unfinished.{Unfinished}
use Rattle.durable_store.specs.declared.keyed.Unfinished.TheVariants as unfinished
use Rattle.request_text.specs.declared.fault.RequestFault.{RequestFault}
use Rattle.request_text.specs.declared.request.Asked.{Asked}
use Rattle.request_text.specs.declared.request.Request.{Request}
use Rattle.request_text.specs.declared.request.Request.TheVariants as request
use Rattle.request_text.specs.declared.request.TransactionName.{TransactionName}
use Rattle.request_text.specs.Requests.{asked_by}
use Rattle.serving.specs.declared.answer_line.AnswerLine.{AnswerLine}
use Rattle.serving.specs.declared.answer_line.AnswerLine.TheVariants as answer
use Rattle.serving.specs.declared.answer_line.Answered.{Answered}
use Rattle.serving.specs.declared.extension.Extension.{Extension}
use Rattle.serving.specs.AnswersFound.{IsIt}
use Rattle.serving.specs.Does.{is_epoch_full}
use Rattle.serving.specs.Keys.{commit_under_answer, do_under_answer, draining_under, kept_answered, kept_by, outcomes_after, outcomes_where_free, said_after, unknown_under}
use Rattle.serving.specs.KeysFound.{KeepsPromise, KeysAreFound, LinePromises, Promises}
use Rattle.serving.specs.Left.{Began, IsFileAfter, IsStoreFile, Survives, closed_store}
use Rattle.serving.specs.Lines.{AreLines}
use Rattle.serving.specs.NextEpoch.{SaysNext, answers_in, begin_limit, full_with, late_answer}
use Rattle.serving.specs.Places.{TellsSuch}
use Rattle.serving.specs.Names.{KnownNames, number_named}
use Rattle.serving.specs.Prepared.{now_says, prepared_after, prepared_answered}
use Rattle.serving.specs.Requests.{DoesRequest}
use Rattle.serving.specs.Served.{IsAnswered, Serves}
use Rattle.serving.specs.Several.{ended_answer}
use Rattle.serving.specs.Told.{is_lasting}
use Rattle.serving.proofs.AnswersFound.{it-lasts}
use Rattle.serving.proofs.InTurns.{answered-turn, either, if-known, more-turn, serves-count}
use Rattle.serving.proofs.Moments.{more-lasts, tells-left}
use Rattle.serving.proofs.NextEpochs.{next-says}
use Rattle.serving.proofs.Places.{told-epoch, told-first, told-last}

-- ---- what a file knows of a key

-- where it knows something, something is kept at the key's place
something-kept : (key : List ℕ) (known : Outcome) (there : Option KeyedOutcome) → outcome_for key there ≡ Some known → (kept : KeyedOutcome) × (there ≡ Some kept)
something-kept key known None is = absurd (cc)
something-kept key known (Some kept) is = (kept, refl)

-- what is kept stays, whatever a line keeps after it
where-free-stays : (outcomes : Outcomes) (o : KeyedOutcome) (there : Option KeyedOutcome) → outcomes.at (key_place o.key) ≡ there → (n : ℕ) (kept : KeyedOutcome) → outcomes.at n ≡ Some kept
    → (outcomes_where_free there o outcomes).at n ≡ Some kept
where-free-stays outcomes o None is n kept has = elim (cases_eq n (key_place o.key)) [
  | inl same ↦ absurd (let it : None ≡ Some kept = sym is ∙ ap outcomes.at (sym same) ∙ has in cc)
  | inr differs ↦ rw (ne_eqb n (key_place o.key) differs) has
]
where-free-stays outcomes o (Some before) is n kept has = has

after-stays : (o : Option KeyedOutcome) (outcomes : Outcomes) (n : ℕ) (kept : KeyedOutcome) → outcomes.at n ≡ Some kept → (outcomes_after o outcomes).at n ≡ Some kept
after-stays None outcomes n kept has = has
after-stays (Some o) outcomes n kept has = where-free-stays outcomes o (outcomes.at (key_place o.key)) refl n kept has

-- so a file that keeps all of it knows as much
known-stays : (c d : Contents) (key : List ℕ) (known : Outcome) → ((n : ℕ) (kept : KeyedOutcome) → c.outcomes.at n ≡ Some kept → d.outcomes.at n ≡ Some kept) → outcome_under c key ≡ Some known → outcome_under d key ≡ Some known
known-stays c d key known stays is =
    let (kept, there) = something-kept key known (c.outcomes.at (key_place key)) is in
    ap (outcome_for key) (stays (key_place key) kept there) ∙ sym (ap (outcome_for key) there) ∙ is

-- and what is kept where the key was free is known
known-now : (c : Contents) (key : List ℕ) (known : Outcome) → c.outcomes.at (key_place key) ≡ None → outcome_under (record c { outcomes = outcomes_after (Some (record { key = key; outcome = known })) c.outcomes }) key ≡ Some known
known-now c key known free =
    ap (λ there. outcome_for key ((outcomes_where_free there (record { key = key; outcome = known }) c.outcomes).at (key_place key))) free
    ∙ rw (eq-eqb (key_place key) (key_place key) refl, (bytes_eq-Decides key key).1 refl) refl

-- ---- what an answer promises

-- a file after a request that was so answered
abbrev after : KnownNames → Contents → Request → AnswerLine → Contents
after names c r a = record c { outcomes = outcomes_after (kept_by r a) c.outcomes; prepared = prepared_after names r a c.prepared }

-- what it promises of a commit is true
commit-promises : (names : KnownNames) (c : Contents) (s : Stored) (t : TransactionName) (key : List ℕ) (came : Keyed Denial) → KnowsKey (now_says c s) key came
    → Promises (request.CommitUnder t key) (commit_under_answer came) (after names c (request.CommitUnder t key) (commit_under_answer came))
commit-promises names c s t key (keyed.Done kept) knows = ([], known-now c key (Committed []) knows.0)
commit-promises names c s t key (keyed.Undone denied.Prepared) knows = tt
commit-promises names c s t key (keyed.Undone (denied.Refused refusal)) knows = tt
commit-promises names c s t key (keyed.Known (Committed replies)) knows = (replies, known-stays c (after names c (request.CommitUnder t key) answer.Committed) key (Committed replies) (after-stays (kept_by (request.CommitUnder t key) answer.Committed) c.outcomes) knows)
commit-promises names c s t key (keyed.Known Aborted) knows = tt
commit-promises names c s t key keyed.Prepared knows = tt
commit-promises names c s t key keyed.Taken knows = tt

unknown-promises : (names : KnownNames) (c : Contents) (s : Stored) (t : TransactionName) (key : List ℕ) (known : KeyState) → IsInState (now_says c s) key known
    → Promises (request.CommitUnder t key) (unknown_under known) (after names c (request.CommitUnder t key) (unknown_under known))
unknown-promises names c s t key state.Free knows = tt
unknown-promises names c s t key (state.Known (Committed replies)) knows = (replies, known-stays c (after names c (request.CommitUnder t key) answer.Committed) key (Committed replies) (after-stays (kept_by (request.CommitUnder t key) answer.Committed) c.outcomes) knows)
unknown-promises names c s t key (state.Known Aborted) knows = tt
unknown-promises names c s t key state.Prepared knows = tt
unknown-promises names c s t key state.Taken knows = tt

-- and so of a whole transaction
replied-promises : (names : KnownNames) (c : Contents) (key replies : List ℕ) → outcome_under c key ≡ Some (Committed replies) → Promises (request.DoUnder key) (answer.Replied replies) (after names c (request.DoUnder key) (answer.Replied replies))
replied-promises names c key replies knows = known-stays c (after names c (request.DoUnder key) (answer.Replied replies)) key (Committed replies) (after-stays (kept_by (request.DoUnder key) (answer.Replied replies)) c.outcomes) knows

ended-promises : (d : Contents) (key : List ℕ) (names : KnownNames) (at : ℕ) (how : Ending) → Promises (request.DoUnder key) (ended_answer names at how) d
ended-promises d key names at (ending.Busy u) = tt
ended-promises d key names at ending.None = tt
ended-promises d key names at (ending.Refused refusal) = tt

do-promises : (c : Contents) (s : Stored) (key : List ℕ) (names : KnownNames) (came : Keyed Unfinished) → KnowsKey (now_says c s) key came
    → Promises (request.DoUnder key) (do_under_answer names came) (after names c (request.DoUnder key) (do_under_answer names came))
do-promises c s key names (keyed.Done (Committed replies)) knows = known-now c key (Committed replies) knows.0
do-promises c s key names (keyed.Done Aborted) knows = tt
do-promises c s key names (keyed.Undone (unfinished.Ended at how)) knows = ended-promises (after names c (request.DoUnder key) (ended_answer names at how)) key names at how
do-promises c s key names (keyed.Undone (unfinished.NotBegun refusal)) knows = tt
do-promises c s key names (keyed.Known (Committed replies)) knows = replied-promises names c key replies knows
do-promises c s key names (keyed.Known Aborted) knows = tt
do-promises c s key names keyed.Prepared knows = tt
do-promises c s key names keyed.Taken knows = tt

draining-promises : (names : KnownNames) (c : Contents) (s : Stored) (key : List ℕ) (known : KeyState) → IsInState (now_says c s) key known → Promises (request.DoUnder key) (draining_under known) (after names c (request.DoUnder key) (draining_under known))
draining-promises names c s key state.Free knows = tt
draining-promises names c s key (state.Known (Committed replies)) knows = replied-promises names c key replies knows
draining-promises names c s key (state.Known Aborted) knows = tt
draining-promises names c s key state.Prepared knows = tt
draining-promises names c s key state.Taken knows = tt

-- it is true once it is given
request-promises : (most : ℕ) (names : KnownNames) (c : Contents) (ps : List Prepared) (line : List ℕ) (old : Stored) (r : Request) (a : AnswerLine) (new : Stored) → DoesRequest (Unit {0}) most names c ps line old r a new → Promises r a (after names c r a)
request-promises most names c ps line old (request.CommitUnder t key) a new does =
    if-known (number_named names t) does
    (λ p. subst (λ x. Promises (request.CommitUnder t key) x (after names c (request.CommitUnder t key) x)) (sym p.2) (unknown-promises names c old t key p.0 (p.1 tt)))
    (λ n p. subst (λ x. Promises (request.CommitUnder t key) x (after names c (request.CommitUnder t key) x)) (sym p.3) (commit-promises names c old t key p.0 (p.1 tt)))
request-promises most names c ps line old (request.DoUnder key) a new does =
    either (is_epoch_full most old) does
    (λ p. subst (λ x. Promises (request.DoUnder key) x (after names c (request.DoUnder key) x)) (sym p.2) (draining-promises names c old key p.0 (p.1 tt)))
    (λ p. subst (λ x. Promises (request.DoUnder key) x (after names c (request.DoUnder key) x)) (sym p.5) (do-promises c old key names p.2 (p.3 tt)))
request-promises most names c ps line old r a new does = tt

answer-promises : (most : ℕ) (names : KnownNames) (c : Contents) (line : List ℕ) (old : Stored) (a : Answered) (new : Stored) → IsAnswered (Unit {0}) most names c line old a new → LinePromises (asked_by line).request a.answer (said_after names c line a.answer)
answer-promises most names c line old a new answered =
    elim (asked_by line).request as (λ (q : Result Request RequestFault). MatchResult q (λ r. DoesRequest (Unit {0}) most names c answered.prepared line old r a.answer new) (λ fault. (a.answer ≡ answer.Fault fault) × (new ≡ old))
    → LinePromises q a.answer (record c { outcomes = outcomes_after (kept_answered q a.answer) c.outcomes; prepared = prepared_answered names q a.answer c.prepared })) [
      | Ok r ↦ λ does. request-promises most names c answered.prepared line old r a.answer new does
      | Err fault ↦ λ told. tt
    ] answered.request

-- ---- what stays known

same-known : (a b : Outcomes) → b ≡ a → StaysKnown a b
same-known a b same = subst (StaysKnown a) (sym same) (stays-same a)

-- a line keeps what became of a transaction where nothing was kept, or nothing
where-free-known : (outcomes : Outcomes) (o : KeyedOutcome) (there : Option KeyedOutcome) → outcomes.at (key_place o.key) ≡ there → StaysKnown outcomes (outcomes_where_free there o outcomes)
where-free-known outcomes o None free = stays-with outcomes o free
where-free-known outcomes o (Some kept) is = stays-same outcomes

pub line-known : (o : Option KeyedOutcome) (outcomes : Outcomes) → StaysKnown outcomes (outcomes_after o outcomes)
line-known None outcomes = stays-same outcomes
line-known (Some o) outcomes = where-free-known outcomes o (outcomes.at (key_place o.key)) refl

-- another epoch lets some go
pub next-outcomes : (waits : Option Extension) (ps : List Prepared) (c now : Contents) → SaysNext waits ps c now → now.outcomes ≡ let_go c.outcomes
next-outcomes None ps c now says = says.2
next-outcomes (Some e) ps c now says = says.0.outcomes

pub next-known : (waits : Option Extension) (ps : List Prepared) (c now : Contents) → SaysNext waits ps c now → StaysKnown c.outcomes now.outcomes
next-known waits ps c now says = subst (StaysKnown c.outcomes) (sym (next-outcomes waits ps c now says)) (stays-let-go c.outcomes)

-- and so does a file of a store
pub file-known : {over : Bool → Type 0} {waits : Option Extension} {life : ℕ} {said : Contents} {s : Stored} {c : Contents} → IsStoreFile over waits life said s c → StaysKnown said.outcomes c.outcomes
file-known {said = said} (IsStoreFile.present c is lives knows) = same-known said.outcomes c.outcomes knows.0
file-known {said = said} (IsStoreFile.closed goes c so is lives knows) = same-known said.outcomes c.outcomes knows.0
file-known {waits = waits} {said = said} {s = s} (IsStoreFile.anew goes c now next ps so is lives knows begins) =
    stays-then (same-known said.outcomes c.outcomes knows.0) (next-known waits ps c now (next-says waits (prepared_in (now_says said s)) (closed_store goes said s) next ps c now begins))

-- ---- lines

-- where serving began
abbrev pub began_with : ℕ → Contents → KnownNames → Stored → Began
began_with most c begins old = record { most = most; file = c; names = begins; store = old }

-- these lines and answers are the first of those
pub record AreFirst (lines : List (List ℕ)) (done : List Answered) (all : List (List ℕ)) (answers : List Answered) : Type 0 where
  pub more : List (List ℕ)
  pub later : List Answered
  pub all_lines : lines ++ more ≡ all
  pub all_answers : done ++ later ≡ answers

pub first-all : (lines : List (List ℕ)) (done : List Answered) → AreFirst lines done lines done
first-all lines done = record { more = []; later = []; all_lines = append-nil lines; all_answers = append-nil done }

pub first-more : {lines all : List (List ℕ)} {done answers : List Answered} (ls : List (List ℕ)) (xs : List Answered) → AreFirst lines done all answers → AreFirst lines done (all ++ ls) (answers ++ xs)
first-more {lines = lines} {done = done} ls xs first = record {
  more = first.more ++ ls;
  later = first.later ++ xs;
  all_lines = sym (append_assoc lines first.more ls) ∙ ap (λ all. all ++ ls) first.all_lines;
  all_answers = sym (append_assoc done first.later xs) ∙ ap (λ all. all ++ xs) first.all_answers;
}

-- a line more, which isn't answered yet
pub first-asked : {lines all : List (List ℕ)} {done answers : List Answered} (line : List ℕ) → AreFirst lines done all answers → AreFirst lines done (all ++ line ∷ []) answers
first-asked {lines} {all} {done} {answers} line first = subst (λ xs. AreFirst lines done (all ++ line ∷ []) xs) (append-nil answers) (first-more (line ∷ []) [] first)

-- an answer more, that comes late
pub first-late : {lines all : List (List ℕ)} {done answers : List Answered} (xs : List Answered) → AreFirst lines done all answers → AreFirst lines done all (answers ++ xs)
first-late {lines} {all} {done} {answers} xs first = subst (λ ls. AreFirst lines done ls (answers ++ xs)) (append-nil all) (first-more [] xs first)

-- so a file is that after the first of its lines and more
pub file-first : {b : Began} {last : List (List ℕ) → Type 0} {lines all : List (List ℕ)} {done answers : List Answered} {c : Contents} (first : AreFirst lines done all answers) → IsFileAfter b last all answers c
    → IsFileAfter b last (lines ++ first.more) (done ++ first.later) c
file-first {b} {last} {lines} {all} {done} {answers} {c} first file =
    subst (λ ls. IsFileAfter b last ls (done ++ first.later) c) (sym first.all_lines) (subst (λ xs. IsFileAfter b last all xs c) (sym first.all_answers) file)

-- after the first of these lines it was promised, and stays known
record IsPromised (b : Began) (line : List ℕ) (a : Answered) (all : List (List ℕ)) (answers : List Answered) (now : Contents) : Type 0 where
  pub lines : List (List ℕ)
  pub done : List Answered
  pub names : KnownNames
  pub said : Contents
  pub reached : Stored
  pub waits : Option Extension
  pub serves : Serves (Unit {0}) b.most b.file b.names (lines ++ line ∷ []) b.store (done ++ a ∷ []) names said reached None waits
  pub promised : LinePromises (asked_by line).request a.answer said
  pub first : AreFirst (lines ++ line ∷ []) (done ++ a ∷ []) all answers
  pub stays : StaysKnown said.outcomes now.outcomes

promise-stays : {b : Began} {line : List ℕ} {a : Answered} {all all_now : List (List ℕ)} {answers answers_now : List Answered} {c d : Contents} (it : IsPromised b line a all answers c)
    → AreFirst (it.lines ++ line ∷ []) (it.done ++ a ∷ []) all_now answers_now → StaysKnown c.outcomes d.outcomes → IsPromised b line a all_now answers_now d
promise-stays it first more = record {
  lines = it.lines;
  done = it.done;
  names = it.names;
  said = it.said;
  reached = it.reached;
  waits = it.waits;
  serves = it.serves;
  promised = it.promised;
  first = first;
  stays = stays-then it.stays more;
}

promise-kept : {b : Began} {last : List (List ℕ) → Type 0} {line : List ℕ} {a : Answered} {all : List (List ℕ)} {answers : List Answered} {c : Contents} → IsPromised b line a all answers c → IsFileAfter b last all answers c
    → KeepsPromise b last line a c
promise-kept it file = record {
  lines = it.lines;
  done = it.done;
  names = it.names;
  said = it.said;
  reached = it.reached;
  waits = it.waits;
  serves = it.serves;
  promised = it.promised;
  more = it.first.more;
  later = it.first.later;
  file = file-first it.first file;
  stays = it.stays;
}

serves-promised : {most : ℕ} {c : Contents} {begins : KnownNames} {lines : List (List ℕ)} {old : Stored} {answers : List Answered} {names : KnownNames} {said : Contents} {new : Stored} {ended : Option Asked} {waits : Option Extension}
    → Serves (Unit {0}) most c begins lines old answers names said new ended waits → (line : List ℕ) (a : Answered) → is_lasting a.answer ≡ true → TellsSuch lines answers (IsIt line a)
    → IsPromised (began_with most c begins old) line a lines answers said
serves-promised (Serves.none s) line a lasting told = absurd told
serves-promised {most} {c} {begins} (Serves.line lines asked old mid new answers it names said waits goes before other may strong answered) line a lasting told =
    let limit = begin_limit goes waits (full_with most names) in
    let b = began_with most c begins old in
    let now = said_after names said asked it.answer in
    elim (told-last lines answers asked it (IsIt line a) ((serves-count before).1 refl) (answered-turn (Unit {0}) limit names said asked mid it new answered) told) [
      | inl earlier ↦
          let was = serves-promised before line a lasting earlier in
          promise-stays was (first-more (asked ∷ []) (it ∷ []) was.first) (line-known (kept_answered (asked_by asked).request it.answer) said.outcomes)
      | inr here ↦
          subst (λ l. IsPromised b l a (lines ++ asked ∷ []) (answers ++ it ∷ []) now) here.0
          (subst (λ (x : Answered). IsPromised b asked x (lines ++ asked ∷ []) (answers ++ it ∷ []) now) here.1
          (record {
            lines = lines;
            done = answers;
            names = names;
            said = now;
            reached = new;
            waits = waits;
            serves = Serves.line lines asked old mid new answers it names said waits goes before other may strong answered;
            promised = answer-promises limit names said asked mid it new answered;
            first = first-all (lines ++ asked ∷ []) (answers ++ it ∷ []);
            stays = stays-same now.outcomes;
          }))
    ]
serves-promised (Serves.more lines asked old new answers it names said waits before may more) line a lasting told =
    elim (told-last lines answers asked it (IsIt line a) ((serves-count before).1 refl) (more-turn it waits more.told) told) [
      | inl earlier ↦ (let was = serves-promised before line a lasting earlier in promise-stays was (first-more (asked ∷ []) (it ∷ []) was.first) (stays-same said.outcomes))
      | inr here ↦ absurd (let no : true ≡ false = sym (it-lasts line a lasting asked it here) ∙ more-lasts it waits more.told in cc)
    ]
serves-promised (Serves.end lines asked old new answers names said waits before ends) line a lasting told =
    let was = serves-promised before line a lasting
    (told-first lines (asked ∷ []) answers [] (IsIt line a) (it-lasts line a lasting) (serves-count before).0 refl (subst (λ xs. TellsSuch (lines ++ asked ∷ []) xs (IsIt line a)) (sym (append-nil answers)) told)) in
    promise-stays was (first-asked asked was.first) (stays-same said.outcomes)
serves-promised (Serves.forget lines old mid answers names n said ended waits before) line a lasting told = serves-promised before line a lasting told
serves-promised (Serves.epoch lines old mid new answers names next said file waits goes ps new_ps before full strong renews over counted are follows says) line a lasting told =
    let was = serves-promised before line a lasting (told-epoch waits mid lines answers (IsIt line a) told) in
    promise-stays was (first-late (answers_in (late_answer waits mid)) was.first) (next-known waits new_ps said file (says tt))

-- ---- a file

pub keys-found : {S : Type 0} (g : Ghosts S) (b : Began) (last : List (List ℕ) → Type 0) (seen rest half : List ℕ) (lines : List (List ℕ)) (answers : List Answered) (now : Durable S) → AreLines seen lines half
    → Survives g b last (seen ++ rest) answers now → KeysAreFound g b last lines answers now
keys-found g b last seen rest half lines answers now asked survives line a lasting told db left =
    let (waiting, it) = (survives db left).1 in
    let tells = tells-left seen rest half lines (IsIt line a) (it-lasts line a lasting) asked it told in
    let was = serves-promised it.file.serves line a lasting tells in
    promise-kept (promise-stays was was.first (file-known it.file.file)) it.file
