-- Votes that were answered are held.
use Rattle.std.proofs.Common.{◌≡◌, ◌∙◌, ◌⊎◌, inl, inr, ℕ, suc, Bool, true, false, Option, Some, None, Result, Ok, List, [], ◌∷◌, ◌++◌, refl, sym, ap, subst, append-nil}
use Rattle.std.specs.Prelude.{MatchOption, MatchResult}
use Rattle.sqlite_trees.specs.declared.store.Store.{Ghosts}
use Rattle.serial_order.specs.declared.refusal.Refusal.TheVariants.{NotOpen}
use Rattle.store_laws.specs.Stored.{Stored}
use Rattle.journal.specs.declared.outcome_row.Outcome.TheVariants.{Aborted, Committed}
use Rattle.journal.specs.declared.prepared_row.GivenName.{GivenName}
use Rattle.journal.specs.declared.prepared_row.Prepared.{Prepared}
use Rattle.journal.specs.Contents.{Contents}
use Rattle.journal.specs.Outcomes.{Outcomes, StaysKnown, let_go}
use Rattle.journal.proofs.StaysKnown.{stays-let-go, stays-same}
use Rattle.durable_store.specs.declared.durable.Durable.{Durable}
use Rattle.durable_store.specs.Durable.{kinds}
use Rattle.durable_store.specs.Held.{moved_among}
use Rattle.durable_store.specs.Votes.{Votes}
use Rattle.durable_store.specs.declared.votes.Vote.{Vote}
use Rattle.durable_store.specs.declared.votes.Vote.TheVariants as vote
use Rattle.request_text.specs.Requests.{asked_by}
use Rattle.request_text.specs.declared.fault.RequestFault.{RequestFault}
use Rattle.request_text.specs.declared.request.Asked.{Asked}
use Rattle.request_text.specs.declared.request.Request.{Request}
use Rattle.request_text.specs.declared.request.Request.TheVariants as request
use Rattle.request_text.specs.declared.request.TransactionName.{TransactionName}
use Rattle.serving.specs.declared.answer_line.AnswerLine.{AnswerLine}
use Rattle.serving.specs.declared.answer_line.AnswerLine.TheVariants.{Fault, Refused, Voted}
use Rattle.serving.specs.declared.answer_line.Answered.{Answered}
use Rattle.serving.specs.declared.extension.Extension.{Extension}
use Rattle.serving.specs.AnswersFound.{GoesFurther, IsIt}
use Rattle.serving.specs.Epochs.{closed_by, closings}
use Rattle.serving.specs.Keys.{kept_answered, outcomes_after, said_after}
use Rattle.serving.specs.Left.{Began, Survives}
use Rattle.serving.specs.Lines.{AreLines}
use Rattle.serving.specs.Names.{KnownNames, named, number_named}
use Rattle.serving.specs.NextEpoch.{IsNextStore, answers_in, begin_limit, full_with, late_answer}
use Rattle.serving.specs.Places.{TellsSuch}
use Rattle.serving.specs.Prepared.{now_says, prepared_answered, prepared_as, rows_as, vote_answer}
use Rattle.serving.specs.Requests.{DoesRequest}
use Rattle.serving.specs.Served.{IsAnswered, Serves}
use Rattle.serving.specs.Told.{is_lasting}
use Rattle.serving.proofs.AnswersFound.{it-lasts}
use Rattle.serving.proofs.Growth.{answered-grows}
use Rattle.serving.proofs.InTurns.{answered-turn, more-turn, serves-count}
use Rattle.serving.proofs.KeysFound.{AreFirst, began_with, file-known, first-asked, first-late, first-more, line-known, next-outcomes}
use Rattle.serving.proofs.Moments.{file-goes, goes-grow, more-lasts, tells-left}
use Rattle.serving.proofs.Places.{told-epoch, told-first, told-last}
use Rattle.held_votes.specs.VotesHeld.{AnswersVote, IsItsRow, RowsHadBegun, VotesAreHeld, operations_at}
use Rattle.held_votes.proofs.Answers.{answered-still}
use Rattle.held_votes.proofs.Begun.{answered-begun}
use Rattle.held_votes.proofs.Epochs.{begun-over, holds-over, next-begins, works-over}
use Rattle.held_votes.proofs.Files.{file-has, next-rows}
use Rattle.held_votes.proofs.Outcomes.{IsDecidedIn, IsKnown, decided-here, decided-kept, decided-stays}
use Rattle.held_votes.proofs.Rows.{HaveBegun, Holds, holds-let-go, holds-new, open_rows}

-- ---- a vote goes on

-- at some moment this line was answered, and a store in this life goes on from there, which holds the row of the vote over a file that says this
pub record VoteGoesOn (line : List ℕ) (a : Answered) (t : TransactionName) (key : List ℕ) (until : ℕ) (life : ℕ) (said : Contents) (now : Stored) : Type 0 where
  pub most : ℕ
  pub names : KnownNames
  pub said_then : Contents
  pub old : Stored
  pub new : Stored
  pub answered : IsAnswered (Unit {0}) most names said_then line old a new
  pub goes_on : GoesFurther names.life new life now
  pub number : ℕ
  pub known : number_named names t ≡ Some number
  pub row : Prepared
  pub its : IsItsRow t key until row
  pub holds : Holds now.history said.prepared said.outcomes row
  pub works : (x : ℕ) → operations_at now.history row.number x ≡ operations_at new.history number x

-- or its key was decided
abbrev pub VoteStands : Began → List (List ℕ) → List Answered → List ℕ → Answered → TransactionName → List ℕ → ℕ → ℕ → Contents → Stored → Type 0
VoteStands b lines answers line a t key until life said now = IsDecidedIn b key lines answers said ⊎ VoteGoesOn line a t key until life said now

-- through a line
vote-line : (b : Began) (lines : List (List ℕ)) (answers : List Answered) (line : List ℕ) (a : Answered) (t : TransactionName) (key : List ℕ) (until : ℕ) (most : ℕ) (names : KnownNames) (said : Contents) (asked : List ℕ) (mid : Stored) (it : Answered) (new : Stored)
    → (IsKnown (said_after names said asked it.answer).outcomes key → IsDecidedIn b key (lines ++ asked ∷ []) (answers ++ it ∷ []) (said_after names said asked it.answer))
    → IsAnswered (Unit {0}) most names said asked mid it new → HaveBegun mid.history said.prepared → VoteStands b lines answers line a t key until names.life said mid
    → VoteStands b (lines ++ asked ∷ []) (answers ++ it ∷ []) line a t key until names.life (said_after names said asked it.answer) new
vote-line b lines answers line a t key until most names said asked mid it new decides answered began (inl was) =
    inl (decided-stays was (first-more (asked ∷ []) (it ∷ []) was.first) (line-known (kept_answered (asked_by asked).request it.answer) said.outcomes))
vote-line b lines answers line a t key until most names said asked mid it new decides answered began (inr v) =
    elim (answered-still said mid v.row v.holds began most names asked it new answered) [
      | inl known ↦ inl (decides (subst (IsKnown (said_after names said asked it.answer).outcomes) v.its.under known))
      | inr still ↦ inr (record {
        most = v.most;
        names = v.names;
        said_then = v.said_then;
        old = v.old;
        new = v.new;
        answered = v.answered;
        goes_on = goes-grow new v.goes_on (answered-grows (Unit {0}) tt most names said asked mid it new answered);
        number = v.number;
        known = v.known;
        row = v.row;
        its = v.its;
        holds = still.0;
        works = λ x. still.1 x ∙ v.works x;
      })
    ]

-- through a line that changes nothing of it
vote-more : (b : Began) (lines lines_now : List (List ℕ)) (answers answers_now : List Answered) (line : List ℕ) (a : Answered) (t : TransactionName) (key : List ℕ) (until : ℕ) (life : ℕ) (said : Contents) (now : Stored)
    → ((was : IsDecidedIn b key lines answers said) → AreFirst was.lines was.answers lines_now answers_now) → VoteStands b lines answers line a t key until life said now → VoteStands b lines_now answers_now line a t key until life said now
vote-more b lines lines_now answers answers_now line a t key until life said now first (inl was) = inl (decided-stays was (first was) (stays-same said.outcomes))
vote-more b lines lines_now answers answers_now line a t key until life said now first (inr v) = inr v

-- through a store that lets go of events
vote-forgets : (b : Began) (lines : List (List ℕ)) (answers : List Answered) (line : List ℕ) (a : Answered) (t : TransactionName) (key : List ℕ) (until : ℕ) (life : ℕ) (said : Contents) (mid : Stored) (n : ℕ) → VoteStands b lines answers line a t key until life said mid
    → VoteStands b lines answers line a t key until life said (record mid { forgotten = n })
vote-forgets b lines answers line a t key until life said mid n (inl was) = inl was
vote-forgets b lines answers line a t key until life said mid n (inr v) = inr (record {
  most = v.most;
  names = v.names;
  said_then = v.said_then;
  old = v.old;
  new = v.new;
  answered = v.answered;
  goes_on = goes-grow (record mid { forgotten = n }) v.goes_on ([], sym (append-nil mid.history), refl);
  number = v.number;
  known = v.known;
  row = v.row;
  its = v.its;
  holds = v.holds;
  works = v.works;
})

-- into another epoch
vote-epoch : (b : Began) (lines : List (List ℕ)) (answers : List Answered) (line : List ℕ) (a : Answered) (t : TransactionName) (key : List ℕ) (until : ℕ) (life : ℕ) (said file : Contents) (mid new : Stored) (waits : Option Extension) (goes : Bool) (new_ps : List Prepared)
    → IsNextStore waits (open_rows mid.history said.prepared) (closed_by goes (open_rows mid.history said.prepared) mid) new new_ps → file.prepared ≡ new_ps → file.outcomes ≡ let_go said.outcomes
    → VoteStands b lines answers line a t key until life said mid → VoteStands b lines (answers ++ answers_in (late_answer waits mid)) line a t key until (suc life) file new
vote-epoch b lines answers line a t key until life said file mid new waits goes new_ps renews rows outcomes (inl was) =
    inl (decided-stays was (first-late (answers_in (late_answer waits mid)) was.first) (subst (StaysKnown said.outcomes) (sym outcomes) (stays-let-go said.outcomes)))
vote-epoch b lines answers line a t key until life said file mid new waits goes new_ps renews rows outcomes (inr v) =
    let ps = open_rows mid.history said.prepared in
    let old = closed_by goes ps mid in
    let next = next-begins waits ps old new new_ps renews in
    let row = moved_among next.those v.row in
    let moved = holds-let-go new.history new_ps said.outcomes row (holds-over goes mid said.prepared new new_ps next said.outcomes v.row v.holds) in
    inr (record {
      most = v.most;
      names = v.names;
      said_then = v.said_then;
      old = v.old;
      new = v.new;
      answered = v.answered;
      goes_on = GoesFurther.epoch life waits ps new_ps old new new (goes-grow old v.goes_on (closings goes ps mid, refl, refl)) renews refl;
      number = v.number;
      known = v.known;
      row = row;
      its = record { under = v.its.under; given = v.its.given; waits = v.its.waits };
      holds = subst (λ (o : Outcomes). Holds new.history file.prepared o row) (sym outcomes) (subst (λ rs. Holds new.history rs (let_go said.outcomes) row) (sym rows) moved);
      works = λ x. works-over goes mid said.prepared new new_ps next said.outcomes v.row v.holds x ∙ v.works x;
    })

-- ---- a vote

-- an answer that it is prepared now is that of a vote
newly : (came : Vote) → vote_answer came ≡ Voted → came ≡ vote.Prepared
newly vote.Prepared told = refl
newly vote.Again told = absurd (cc)
newly vote.NotOpen told = absurd (cc)
newly vote.Otherwise told = absurd (cc)
newly vote.KeyInUse told = absurd (cc)
newly (vote.Known (Committed replies)) told = absurd (cc)
newly (vote.Known Aborted) told = absurd (cc)
newly vote.Taken told = absurd (cc)

-- what a file says after an answer to a vote
voted-rows : (names : KnownNames) (q : Result Request RequestFault) (answer : AnswerLine) (t : TransactionName) (key : List ℕ) (until n : ℕ) (rows : List Prepared) → q ≡ Ok (request.Prepare t key until) → answer ≡ Voted
    → number_named names t ≡ Some n → prepared_answered names q answer rows ≡ rows ++ prepared_as t n key until ∷ []
voted-rows names q answer t key until n rows asks voted known =
    ap (λ (r : Result Request RequestFault). prepared_answered names r answer rows) asks ∙ ap (λ x. prepared_answered names (Ok (request.Prepare t key until)) x rows) voted
    ∙ ap (λ found. rows ++ rows_as found t key until) known

voted-outcomes : (q : Result Request RequestFault) (answer : AnswerLine) (t : TransactionName) (key : List ℕ) (until : ℕ) (outcomes : Outcomes) → q ≡ Ok (request.Prepare t key until) → answer ≡ Voted
    → outcomes_after (kept_answered q answer) outcomes ≡ outcomes
voted-outcomes q answer t key until outcomes asks voted =
    ap (λ (r : Result Request RequestFault). outcomes_after (kept_answered r answer) outcomes) asks ∙ ap (λ x. outcomes_after (kept_answered (Ok (request.Prepare t key until)) x) outcomes) voted

-- what was done where one was answered: the transaction is prepared as was asked
pub record IsVoted (names : KnownNames) (c : Contents) (old : Stored) (t : TransactionName) (key : List ℕ) (until : ℕ) (new : Stored) : Type 0 where
  pub number : ℕ
  pub known : number_named names t ≡ Some number
  pub now : Contents
  pub votes : Votes old (now_says c old) (prepared_as t number key until) vote.Prepared now
  pub same : new ≡ old

voted-does : (most : ℕ) (names : KnownNames) (c : Contents) (line : List ℕ) (old : Stored) (a : Answered) (new : Stored) (t : TransactionName) (key : List ℕ) (until : ℕ) → AnswersVote line a t key until
    → IsAnswered (Unit {0}) most names c line old a new → IsVoted names c old t key until new
voted-does most names c line old a new t key until asks answered = by (number_named names t) refl does.1
  where
    does : DoesRequest (Unit {0}) most names c answered.prepared line old (request.Prepare t key until) a.answer new
    does =
        subst (λ (q : Result Request RequestFault). MatchResult q (λ r. DoesRequest (Unit {0}) most names c answered.prepared line old r a.answer new) (λ fault. (a.answer ≡ Fault fault) × (new ≡ old))) asks.0 answered.request

    by : (found : Option ℕ) → number_named names t ≡ found
        → MatchOption found (a.answer ≡ Refused NotOpen) (λ n. (came : Vote) × (Unit {0} → (now : Contents) × Votes old (now_says c old) (prepared_as t n key until) came now) × (a.answer ≡ vote_answer came))
        → IsVoted names c old t key until new
    by None is told = absurd (let no : Voted ≡ Refused NotOpen = sym asks.1 ∙ told in cc)
    by (Some n) is (came, votes, told) =
        let did = votes tt in
        record {
          number = n;
          known = is;
          now = did.0;
          votes = subst (λ v. Votes old (now_says c old) (prepared_as t n key until) v did.0) (newly came (sym told ∙ asks.1)) did.1;
          same = does.0;
        }

vote-begins : (most : ℕ) (names : KnownNames) (c : Contents) (line : List ℕ) (old : Stored) (a : Answered) (new : Stored) (t : TransactionName) (key : List ℕ) (until : ℕ) → AnswersVote line a t key until
    → IsAnswered (Unit {0}) most names c line old a new → VoteGoesOn line a t key until names.life (said_after names c line a.answer) new
vote-begins most names c line old a new t key until asks answered =
    let did = voted-does most names c line old a new t key until asks answered in
    let q = prepared_as t did.number key until in
    let holds : Holds old.history (c.prepared ++ q ∷ []) c.outcomes q = holds-new old.history c.prepared c.outcomes q did.votes.0 did.votes.2.0 did.votes.1 did.votes.2.1 in
    let rows = voted-rows names (asked_by line).request a.answer t key until did.number c.prepared asks.0 asks.1 did.known in
    let outcomes = voted-outcomes (asked_by line).request a.answer t key until c.outcomes asks.0 asks.1 in
    record {
      most = most;
      names = names;
      said_then = c;
      old = old;
      new = new;
      answered = answered;
      goes_on = GoesFurther.same new [] (sym (append-nil (kinds new.history)));
      number = did.number;
      known = did.known;
      row = q;
      its = record { under = refl; given = refl; waits = refl };
      holds =
          subst (λ (s : Stored). Holds s.history (said_after names c line a.answer).prepared (said_after names c line a.answer).outcomes q) (sym did.same)
          (subst (λ (o : Outcomes). Holds old.history (said_after names c line a.answer).prepared o q) (sym outcomes) (subst (λ rs. Holds old.history rs c.outcomes q) (sym rows) holds));
      works = λ x. refl;
    }

-- ---- lines

pub serves-begun : {most : ℕ} {c : Contents} {begins : KnownNames} {lines : List (List ℕ)} {old : Stored} {answers : List Answered} {names : KnownNames} {said : Contents} {new : Stored} {ended : Option Asked} {waits : Option Extension}
    → Serves (Unit {0}) most c begins lines old answers names said new ended waits → HaveBegun old.history c.prepared → HaveBegun new.history said.prepared
serves-begun (Serves.none s) began = began
serves-begun {most} (Serves.line lines asked old mid new answers it names said waits goes before other may strong answered) began =
    answered-begun (begin_limit goes waits (full_with most names)) names said asked mid it new answered (serves-begun before began)
serves-begun (Serves.more lines asked old new answers it names said waits before may more) began = serves-begun before began
serves-begun (Serves.end lines asked old new answers names said waits before ends) began = serves-begun before began
serves-begun (Serves.forget lines old mid answers names n said ended waits before) began = serves-begun before began
serves-begun (Serves.epoch lines old mid new answers names next said file waits goes ps new_ps before full strong renews over counted are follows says) began =
    let here : IsNextStore waits (open_rows mid.history said.prepared) (closed_by goes (open_rows mid.history said.prepared) mid) new new_ps = subst (λ qs. IsNextStore waits qs (closed_by goes qs mid) new new_ps) (are tt) renews in
    let next = next-begins waits (open_rows mid.history said.prepared) (closed_by goes (open_rows mid.history said.prepared) mid) new new_ps here in
    subst (HaveBegun new.history) (sym (next-rows waits new_ps said file (says tt))) (begun-over goes mid said.prepared new new_ps next)

vote-lasts : (line : List ℕ) (a : Answered) (t : TransactionName) (key : List ℕ) (until : ℕ) → AnswersVote line a t key until → is_lasting a.answer ≡ true
vote-lasts line a t key until asks = ap is_lasting asks.1

pub serves-held : {most : ℕ} {c : Contents} {begins : KnownNames} {lines : List (List ℕ)} {old : Stored} {answers : List Answered} {names : KnownNames} {said : Contents} {new : Stored} {ended : Option Asked} {waits : Option Extension}
    → Serves (Unit {0}) most c begins lines old answers names said new ended waits → HaveBegun old.history c.prepared → (line : List ℕ) (a : Answered) (t : TransactionName) (key : List ℕ) (until : ℕ) → AnswersVote line a t key until
    → TellsSuch lines answers (IsIt line a) → VoteStands (began_with most c begins old) lines answers line a t key until names.life said new
serves-held (Serves.none s) began line a t key until asks told = absurd told
serves-held {most} {c} {begins} (Serves.line lines asked old mid new answers it names said waits goes before other may strong answered) began line a t key until asks told =
    let limit = begin_limit goes waits (full_with most names) in
    let b = began_with most c begins old in
    let now = Serves.line lines asked old mid new answers it names said waits goes before other may strong answered in
    elim (told-last lines answers asked it (IsIt line a) ((serves-count before).1 refl) (answered-turn (Unit {0}) limit names said asked mid it new answered) told) [
      | inl earlier ↦ vote-line b lines answers line a t key until limit names said asked mid it new (decided-here now key) answered (serves-begun before began) (serves-held before began line a t key until asks earlier)
      | inr here ↦
          let mine : IsAnswered (Unit {0}) limit names said line mid a new =
          subst (λ (x : Answered). IsAnswered (Unit {0}) limit names said line mid x new) here.1 (subst (λ l. IsAnswered (Unit {0}) limit names said l mid it new) here.0 answered) in
          let begun = vote-begins limit names said line mid a new t key until asks mine in
          inr (subst (λ l. VoteGoesOn line a t key until names.life (said_after names said l it.answer) new) (sym here.0)
          (subst (λ (x : Answered). VoteGoesOn line a t key until names.life (said_after names said line x.answer) new) (sym here.1) begun))
    ]
serves-held {most} {c} {begins} (Serves.more lines asked old new answers it names said waits before may more) began line a t key until asks told =
    let b = began_with most c begins old in
    let lasting = vote-lasts line a t key until asks in
    elim (told-last lines answers asked it (IsIt line a) ((serves-count before).1 refl) (more-turn it waits more.told) told) [
      | inl earlier ↦ vote-more b lines (lines ++ asked ∷ []) answers (answers ++ it ∷ []) line a t key until names.life said new (λ was. first-more (asked ∷ []) (it ∷ []) was.first)
          (serves-held before began line a t key until asks earlier)
      | inr here ↦ absurd (let no : true ≡ false = sym (it-lasts line a lasting asked it here) ∙ more-lasts it waits more.told in cc)
    ]
serves-held {most} {c} {begins} (Serves.end lines asked old new answers names said waits before ends) began line a t key until asks told =
    let lasting = vote-lasts line a t key until asks in
    vote-more (began_with most c begins old) lines (lines ++ asked ∷ []) answers answers line a t key until names.life said new (λ was. first-asked asked was.first) (serves-held before began line a t key until asks
    (told-first lines (asked ∷ []) answers [] (IsIt line a) (it-lasts line a lasting) (serves-count before).0 refl (subst (λ xs. TellsSuch (lines ++ asked ∷ []) xs (IsIt line a)) (sym (append-nil answers)) told)))
serves-held {most} {c} {begins} (Serves.forget lines old mid answers names n said ended waits before) began line a t key until asks told =
    vote-forgets (began_with most c begins old) lines answers line a t key until names.life said mid n (serves-held before began line a t key until asks told)
serves-held {most} {c} {begins} (Serves.epoch lines old mid new answers names next said file waits goes ps new_ps before full strong renews over counted are follows says) began line a t key until asks told =
    let b = began_with most c begins old in
    let here : IsNextStore waits (open_rows mid.history said.prepared) (closed_by goes (open_rows mid.history said.prepared) mid) new new_ps = subst (λ qs. IsNextStore waits qs (closed_by goes qs mid) new new_ps) (are tt) renews in
    let stands = serves-held before began line a t key until asks (told-epoch waits mid lines answers (IsIt line a) told) in
    subst (λ life. VoteStands b lines (answers ++ answers_in (late_answer waits mid)) line a t key until life file new) (sym (follows tt))
    (vote-epoch b lines answers line a t key until names.life said file mid new waits goes new_ps here (next-rows waits new_ps said file (says tt)) (next-outcomes waits new_ps said file (says tt)) stands)

-- ---- a crash

pub votes-held : {S : Type 0} (g : Ghosts S) (b : Began) (last : List (List ℕ) → Type 0) (seen rest half : List ℕ) (lines : List (List ℕ)) (answers : List Answered) (now : Durable S) → RowsHadBegun b → AreLines seen lines half
    → Survives g b last (seen ++ rest) answers now → VotesAreHeld g b last lines answers now
votes-held g b last seen rest half lines answers now began asked survives line a t key until asks told db left =
    let (waiting, it) = (survives db left).1 in
    let tells = tells-left seen rest half lines (IsIt line a) (it-lasts line a (vote-lasts line a t key until asks)) asked it told in
    elim (serves-held it.file.serves began line a t key until asks tells) [
      | inl was ↦ inl (decided-kept (decided-stays was was.first (file-known it.file.file)) it.file)
      | inr v ↦
          let has = file-has it.file.file v.row (serves-begun it.file.serves began) v.holds in
          let (since, happened) = file-goes v.names.life v.new it.file.file v.goes_on in
          inr (record {
            row = has.row;
            there = has.there;
            its = record {
              under = has.key ∙ v.its.under;
              given = ap (λ (g : GivenName). named g.life g.number) has.given ∙ v.its.given;
              waits = has.until ∙ v.its.waits;
            };
            found = record {
              lines = it.lines;
              done = it.done;
              file = it.file;
              tells = tells;
              most = v.most;
              names = v.names;
              said = v.said_then;
              old = v.old;
              new = v.new;
              answered = v.answered;
              goes_on = v.goes_on;
              since = since;
              happened = happened;
            };
            number = v.number;
            known = v.known;
            works = λ x. has.works x ∙ v.works x;
          })
    ]
