-- What a file knows of keys: at which places it grows, and at which moment a key was decided.
use Rattle.std.proofs.Common.{◌≡◌, ◌≢◌, ◌∙◌, ℕ, List, Option, Some, None, refl, ap}
use Rattle.std.proofs.lemmas.Bool.{eq-eqb, ne_eqb}
use Rattle.std.proofs.lemmas.Slice.Eq.{bytes_eq-Decides}
use Rattle.transaction_key.specs.TransactionKey.{key_place}
use Rattle.journal.specs.declared.outcome_row.KeyedOutcome.{KeyedOutcome}
use Rattle.journal.specs.declared.outcome_row.Outcome.{Outcome}
use Rattle.journal.specs.Contents.{Contents}
use Rattle.journal.specs.Outcomes.{Outcomes, StaysKnown}
use Rattle.journal.proofs.StaysKnown.{stays-same, stays-then}
use Rattle.store_laws.specs.Stored.{Stored}
use Rattle.durable_store.specs.Keys.{outcome_for}
use Rattle.request_text.specs.declared.request.Asked.{Asked}
use Rattle.serving.specs.declared.answer_line.Answered.{Answered}
use Rattle.serving.specs.declared.extension.Extension.{Extension}
use Rattle.serving.specs.Keys.{outcomes_after, outcomes_where_free}
use Rattle.serving.specs.Left.{Began, IsFileAfter}
use Rattle.serving.specs.Names.{KnownNames}
use Rattle.serving.specs.Served.{Serves}
use Rattle.serving.proofs.KeysFound.{AreFirst, began_with, file-first, first-all}
use Rattle.held_votes.specs.VotesHeld.{IsDecided, WasDecided}

-- where a key says something, something is kept at its place
pub something-kept : (key : List ℕ) (known : Outcome) (there : Option KeyedOutcome) → outcome_for key there ≡ Some known → (kept : KeyedOutcome) × (there ≡ Some kept)
something-kept key known None is = absurd (cc)
something-kept key known (Some kept) is = (kept, refl)

module _ (outcomes : Outcomes) (o : KeyedOutcome) where
  -- nothing is kept at other places
  where-free-other : (there : Option KeyedOutcome) (n : ℕ) → n ≢ key_place o.key → outcomes.at n ≡ None → (outcomes_where_free there o outcomes).at n ≡ None
  where-free-other None n differs none = rw (ne_eqb n (key_place o.key) differs) none
  where-free-other (Some before) n differs none = none

  pub other-place : (n : ℕ) → n ≢ key_place o.key → outcomes.at n ≡ None → (outcomes_after (Some o) outcomes).at n ≡ None
  other-place n differs none = where-free-other (outcomes.at (key_place o.key)) n differs none

  -- nor anywhere where the key is known
  pub known-place : (known : Outcome) (n : ℕ) → outcome_for o.key (outcomes.at (key_place o.key)) ≡ Some known → outcomes.at n ≡ None → (outcomes_after (Some o) outcomes).at n ≡ None
  known-place known n is none =
      let (kept, there) = something-kept o.key known (outcomes.at (key_place o.key)) is in
      ap (λ (at : Option KeyedOutcome). (outcomes_where_free at o outcomes).at n) there ∙ none

-- these outcomes say what became of a key's transaction
abbrev pub IsKnown : Outcomes → List ℕ → Type 0
IsKnown outcomes key = (how : Outcome) × (outcome_for key (outcomes.at (key_place key)) ≡ Some how)

-- what is kept where the key was free is known
pub known-now : (outcomes : Outcomes) (key : List ℕ) (how : Outcome) → outcomes.at (key_place key) ≡ None → IsKnown (outcomes_after (Some (record { key = key; outcome = how })) outcomes) key
known-now outcomes key how free = (
  how,
  ap (λ there. outcome_for key ((outcomes_where_free there (record { key = key; outcome = how }) outcomes).at (key_place key))) free
      ∙ rw (eq-eqb (key_place key) (key_place key) refl, (bytes_eq-Decides key key).1 refl) refl,
)

-- ---- a file in which it was decided

-- after the first of these lines it was decided, and stays known
pub record IsDecidedIn (b : Began) (key : List ℕ) (all : List (List ℕ)) (told : List Answered) (now : Contents) : Type 0 where
  pub lines : List (List ℕ)
  pub answers : List Answered
  pub names : KnownNames
  pub said : Contents
  pub reached : Stored
  pub ended : Option Asked
  pub waits : Option Extension
  pub serves : Serves (Unit {0}) b.most b.file b.names lines b.store answers names said reached ended waits
  pub decided : IsDecided said key
  pub first : AreFirst lines answers all told
  pub stays : StaysKnown said.outcomes now.outcomes

-- at the moment that a file has come to
pub decided-here : {most : ℕ} {c : Contents} {begins : KnownNames} {lines : List (List ℕ)} {old : Stored} {answers : List Answered} {names : KnownNames} {said : Contents} {new : Stored} {ended : Option Asked} {waits : Option Extension}
    → Serves (Unit {0}) most c begins lines old answers names said new ended waits → (key : List ℕ) → IsKnown said.outcomes key → IsDecidedIn (began_with most c begins old) key lines answers said
decided-here {lines = lines} {answers = answers} {names = names} {said = said} {new = new} {ended = ended} {waits = waits} serves key known = record {
  lines = lines;
  answers = answers;
  names = names;
  said = said;
  reached = new;
  ended = ended;
  waits = waits;
  serves = serves;
  decided = known;
  first = first-all lines answers;
  stays = stays-same said.outcomes;
}

-- or before it
pub decided-stays : {b : Began} {key : List ℕ} {all all_now : List (List ℕ)} {told told_now : List Answered} {c d : Contents} (was : IsDecidedIn b key all told c) → AreFirst was.lines was.answers all_now told_now
    → StaysKnown c.outcomes d.outcomes → IsDecidedIn b key all_now told_now d
decided-stays was first more = record {
  lines = was.lines;
  answers = was.answers;
  names = was.names;
  said = was.said;
  reached = was.reached;
  ended = was.ended;
  waits = was.waits;
  serves = was.serves;
  decided = was.decided;
  first = first;
  stays = stays-then was.stays more;
}

pub decided-kept : {b : Began} {last : List (List ℕ) → Type 0} {key : List ℕ} {all : List (List ℕ)} {told : List Answered} {c : Contents} → IsDecidedIn b key all told c → IsFileAfter b last all told c → WasDecided b last c key
decided-kept was file = record {
  lines = was.lines;
  answers = was.answers;
  names = was.names;
  said = was.said;
  reached = was.reached;
  ended = was.ended;
  waits = was.waits;
  serves = was.serves;
  decided = was.decided;
  more = was.first.more;
  later = was.first.later;
  file = file-first was.first file;
  stays = was.stays;
}
