-- What a file knows of keys, and of who was prepared, after a request under a key.
use Rattle.std.proofs.Common.{◌≡◌, ◌∙◌, inl, inr, ℕ, Bool, List, [], ◌++◌, Option, Some, None, refl, sym, ap}
use Rattle.object_trait.specs.declared.event.Event.{Event}
use Rattle.transaction_key.specs.TransactionKey.{key_place}
use Rattle.store_laws.specs.Stored.{Stored}
use Rattle.attempts.specs.Commands.{CallAt}
use Rattle.attempts.specs.declared.outcome.Attempt.{Attempt}
use Rattle.attempts.specs.declared.outcome.Attempt.TheVariants as attempt
use Rattle.attempts.specs.declared.outcome.Ending.{Ending}
use Rattle.attempts.specs.declared.outcome.Ending.TheVariants as ending
use Rattle.journal.specs.declared.outcome_row.KeyedOutcome.{KeyedOutcome}
use Rattle.journal.specs.declared.outcome_row.Outcome.{Outcome}
use Rattle.journal.specs.declared.outcome_row.Outcome.TheVariants.{Aborted, Committed}
use Rattle.journal.specs.declared.prepared_row.Prepared.{Prepared}
use Rattle.journal.specs.Outcomes.{outcomes_with}
use Rattle.journal.specs.Contents.{Contents}
use Rattle.durable_store.specs.Durable.{prepared_in, with_all}
use Rattle.durable_store.specs.Held.{first_passing, has_key}
use Rattle.durable_store.specs.Keys.{AttemptsUnder, CommitsUnder, IsDoneWith, IsInState, KnowsKey, kept_under, outcome_for, reply_text, with_key}
use Rattle.durable_store.specs.Votes.{Decides, Votes, decided_outcome}
use Rattle.durable_store.specs.declared.denial.Denial.{Denial}
use Rattle.durable_store.specs.declared.denial.Denial.TheVariants as denied
use Rattle.durable_store.specs.declared.votes.Verdict.{Verdict}
use Rattle.durable_store.specs.declared.votes.Verdict.TheVariants as verdict
use Rattle.durable_store.specs.declared.votes.Vote.{Vote}
use Rattle.durable_store.specs.declared.votes.Vote.TheVariants as vote
use Rattle.durable_store.specs.declared.keyed.Keyed.{Keyed}
use Rattle.durable_store.specs.declared.keyed.Keyed.TheVariants as keyed
use Rattle.durable_store.specs.declared.keyed.KeyState.{KeyState}
use Rattle.durable_store.specs.declared.keyed.KeyState.TheVariants as state
use Rattle.durable_store.specs.declared.keyed.Unfinished.{Unfinished}
use Rattle.durable_store.specs.declared.keyed.Unfinished.TheVariants as unfinished
use Rattle.request_text.specs.declared.request.Decision.{Decision as Asked}
use Rattle.request_text.specs.declared.request.Request.TheVariants as request
use Rattle.request_text.specs.declared.request.TransactionName.{TransactionName}
use Rattle.serving.specs.Keys.{commit_under_answer, do_under_answer, draining_under, kept_by, outcomes_after, outcomes_where_free, unknown_under}
use Rattle.serving.specs.Names.{KnownNames, number_named}
use Rattle.serving.specs.Prepared.{decision_of, prepared_after, prepared_as, rows_as, verdict_answer, vote_answer}
use Rattle.serving.specs.Several.{ended_answer}

-- what is kept at a known key's place isn't changed
known-kept : (c : Contents) (key : List ℕ) (o known : Outcome) (there : Option KeyedOutcome) → outcome_for key there ≡ Some known → outcomes_where_free there (record { key = key; outcome = o }) c.outcomes ≡ c.outcomes
known-kept c key o known None is = absurd (cc)
known-kept c key o known (Some kept) is = refl

-- a commit: what is written is what its answer says
pub commit-keeps : (c : Contents) (es : List Event) (prepared : Bool) (old : Stored) (n : ℕ) (t : TransactionName) (key : List ℕ) (came : Keyed Denial) (new : Stored) → KnowsKey c key came → CommitsUnder prepared old n came new
    → (with_key key (kept_under came) (with_all c es)).outcomes ≡ outcomes_after (kept_by (request.CommitUnder t key) (commit_under_answer came)) c.outcomes
commit-keeps c es prepared old n t key (keyed.Done kept) new free did =
    ap (λ o. (with_key key (Some o) (with_all c es)).outcomes) did.1 ∙ sym (ap (λ there. outcomes_where_free there (record { key = key; outcome = Committed [] }) c.outcomes) free.0)
commit-keeps c es prepared old n t key (keyed.Undone denied.Prepared) new free did = refl
commit-keeps c es prepared old n t key (keyed.Undone (denied.Refused refusal)) new free did = refl
commit-keeps c es prepared old n t key (keyed.Known (Committed replies)) new knows did = sym (known-kept c key (Committed []) (Committed replies) (c.outcomes.at (key_place key)) knows)
commit-keeps c es prepared old n t key (keyed.Known Aborted) new knows did = refl
commit-keeps c es prepared old n t key keyed.Prepared new knows did = refl
commit-keeps c es prepared old n t key keyed.Taken new knows did = refl

-- of a name that nobody has
pub unknown-keeps : (c : Contents) (t : TransactionName) (key : List ℕ) (known : KeyState) → IsInState c key known
    → c.outcomes ≡ outcomes_after (kept_by (request.CommitUnder t key) (unknown_under known)) c.outcomes
unknown-keeps c t key state.Free knows = refl
unknown-keeps c t key (state.Known (Committed replies)) knows = sym (known-kept c key (Committed []) (Committed replies) (c.outcomes.at (key_place key)) knows)
unknown-keeps c t key (state.Known Aborted) knows = refl
unknown-keeps c t key state.Prepared knows = refl
unknown-keeps c t key state.Taken knows = refl

-- a whole transaction
done-with : (s : Stored) (calls : List CallAt) (came : Attempt) (kept : Outcome) → IsDoneWith s calls came kept → (replies : List ℕ) × (kept ≡ Committed replies)
done-with s calls (attempt.Done ks) kept is = (reply_text s calls ks.items, is)
done-with s calls (attempt.Ended at how) kept is = absurd is
done-with s calls (attempt.NotBegun refusal) kept is = absurd is

ended-keeps : (c : Contents) (key : List ℕ) (names : KnownNames) (at : ℕ) (how : Ending) → c.outcomes ≡ outcomes_after (kept_by (request.DoUnder key) (ended_answer names at how)) c.outcomes
ended-keeps c key names at (ending.Busy u) = refl
ended-keeps c key names at ending.None = refl
ended-keeps c key names at (ending.Refused refusal) = refl

kept-replies : (c : Contents) (es : List Event) (key : List ℕ) (names : KnownNames) (kept : Outcome) (replies : List ℕ) → kept ≡ Committed replies → c.outcomes.at (key_place key) ≡ None
    → (with_key key (Some kept) (with_all c es)).outcomes ≡ outcomes_after (kept_by (request.DoUnder key) (do_under_answer names (keyed.Done kept))) c.outcomes
kept-replies c es key names (Committed told) replies is free = sym (ap (λ there. outcomes_where_free there (record { key = key; outcome = Committed told }) c.outcomes) free)
kept-replies c es key names Aborted replies is free = absurd (cc)

pub do-keeps : (c : Contents) (es : List Event) (old : Stored) (calls : List CallAt) (names : KnownNames) (key : List ℕ) (came : Keyed Unfinished) (new : Stored) → KnowsKey c key came → AttemptsUnder old calls came new
    → (with_key key (kept_under came) (with_all c es)).outcomes ≡ outcomes_after (kept_by (request.DoUnder key) (do_under_answer names came)) c.outcomes
do-keeps c es old calls names key (keyed.Done kept) new free did =
    let it = done-with new calls did.0 kept did.2 in
    kept-replies c es key names kept it.0 it.1 free.0
do-keeps c es old calls names key (keyed.Undone (unfinished.Ended at how)) new free did = ended-keeps c key names at how
do-keeps c es old calls names key (keyed.Undone (unfinished.NotBegun refusal)) new free did = refl
do-keeps c es old calls names key (keyed.Known (Committed replies)) new knows did = sym (known-kept c key (Committed replies) (Committed replies) (c.outcomes.at (key_place key)) knows)
do-keeps c es old calls names key (keyed.Known Aborted) new knows did = refl
do-keeps c es old calls names key keyed.Prepared new knows did = refl
do-keeps c es old calls names key keyed.Taken new knows did = refl

-- where no transaction begins
pub draining-keeps : (c : Contents) (key : List ℕ) (known : KeyState) → IsInState c key known → c.outcomes ≡ outcomes_after (kept_by (request.DoUnder key) (draining_under known)) c.outcomes
draining-keeps c key state.Free knows = refl
draining-keeps c key (state.Known (Committed replies)) knows = sym (known-kept c key (Committed replies) (Committed replies) (c.outcomes.at (key_place key)) knows)
draining-keeps c key (state.Known Aborted) knows = refl
draining-keeps c key state.Prepared knows = refl
draining-keeps c key state.Taken knows = refl

-- ---- a decision

-- what is written is what its answer says: nothing was kept at the place of a key under which a transaction is prepared
pub decide-keeps : (old new : Stored) (c now : Contents) (key : List ℕ) (asked : Asked) (came : Verdict) → ((p : Prepared) → first_passing (has_key key) (prepared_in c) ≡ Some p → c.outcomes.at (key_place key) ≡ None)
    → Decides old new c now key (decision_of asked) came → now.outcomes ≡ outcomes_after (kept_by (request.Decide key asked) (verdict_answer came)) c.outcomes
decide-keeps old new c now key asked verdict.Decided free did =
    let kept : KeyedOutcome = record { key = key; outcome = decided_outcome (decision_of asked) } in
    elim did [
      | inl ends ↦ ap (λ (x : Contents). x.outcomes) ends.written ∙ sym (ap (λ there. outcomes_where_free there kept c.outcomes) (free ends.p ends.there))
      | inr before ↦ elim before.0 [
        | inl known ↦ ap (λ (x : Contents). x.outcomes) known.3 ∙ sym (known-kept c key (decided_outcome (decision_of asked)) known.0 (c.outcomes.at (key_place key)) known.1)
        | inr aborted ↦
            ap (λ (x : Contents). x.outcomes) aborted.2
            ∙ (ap (λ d. outcomes_with c.outcomes (record { key = key; outcome = decided_outcome d })) (sym aborted.0) ∙ sym (ap (λ there. outcomes_where_free there kept c.outcomes) aborted.1.0))
      ]
    ]
decide-keeps old new c now key asked (verdict.Otherwise known) free did = ap (λ (x : Contents). x.outcomes) did.3
decide-keeps old new c now key asked verdict.Unknown free did = ap (λ (x : Contents). x.outcomes) did.3
decide-keeps old new c now key asked verdict.Taken free did = ap (λ (x : Contents). x.outcomes) did.2

-- ---- who was prepared

-- an outcome says nothing of it
pub key-rows : (key : List ℕ) (outcome : Option Outcome) (c : Contents) → (with_key key outcome c).prepared ≡ c.prepared
key-rows key None c = refl
key-rows key (Some outcome) c = refl

pub decide-rows : (old new : Stored) (c now : Contents) (key : List ℕ) (asked : Asked) (came : Verdict) → Decides old new c now key (decision_of asked) came → now.prepared ≡ c.prepared
decide-rows old new c now key asked verdict.Decided did = elim did [
  | inl ends ↦ ap (λ (x : Contents). x.prepared) ends.written
  | inr before ↦ elim before.0 [ inl known ↦ ap (λ (x : Contents). x.prepared) known.3 | inr aborted ↦ ap (λ (x : Contents). x.prepared) aborted.2 ]
]
decide-rows old new c now key asked (verdict.Otherwise known) did = ap (λ (x : Contents). x.prepared) did.3
decide-rows old new c now key asked verdict.Unknown did = ap (λ (x : Contents). x.prepared) did.3
decide-rows old new c now key asked verdict.Taken did = ap (λ (x : Contents). x.prepared) did.2

-- a vote keeps no outcome
pub vote-keeps : (s : Stored) (c now : Contents) (p : Prepared) (came : Vote) → Votes s c p came now → now.outcomes ≡ c.outcomes
vote-keeps s c now p vote.Prepared votes = ap (λ (x : Contents). x.outcomes) votes.3
vote-keeps s c now p vote.Again votes = ap (λ (x : Contents). x.outcomes) votes.1
vote-keeps s c now p vote.NotOpen votes = ap (λ (x : Contents). x.outcomes) votes.1
vote-keeps s c now p vote.Otherwise votes = ap (λ (x : Contents). x.outcomes) votes.1
vote-keeps s c now p vote.KeyInUse votes = ap (λ (x : Contents). x.outcomes) votes.2
vote-keeps s c now p (vote.Known known) votes = ap (λ (x : Contents). x.outcomes) votes.2
vote-keeps s c now p vote.Taken votes = ap (λ (x : Contents). x.outcomes) votes.2

-- and adds its row where it says so
pub vote-rows : (s : Stored) (c now : Contents) (names : KnownNames) (t : TransactionName) (n : ℕ) (key : List ℕ) (until : ℕ) (came : Vote) → number_named names t ≡ Some n → Votes s c (prepared_as t n key until) came now
    → now.prepared ≡ prepared_after names (request.Prepare t key until) (vote_answer came) c.prepared
vote-rows s c now names t n key until vote.Prepared known votes = ap (λ (x : Contents). x.prepared) votes.3 ∙ ap (λ (found : Option ℕ). c.prepared ++ rows_as found t key until) (sym known)
vote-rows s c now names t n key until vote.Again known votes = ap (λ (x : Contents). x.prepared) votes.1
vote-rows s c now names t n key until vote.NotOpen known votes = ap (λ (x : Contents). x.prepared) votes.1
vote-rows s c now names t n key until vote.Otherwise known votes = ap (λ (x : Contents). x.prepared) votes.1
vote-rows s c now names t n key until vote.KeyInUse known votes = ap (λ (x : Contents). x.prepared) votes.2
vote-rows s c now names t n key until (vote.Known (Committed replies)) known votes = ap (λ (x : Contents). x.prepared) votes.2
vote-rows s c now names t n key until (vote.Known Aborted) known votes = ap (λ (x : Contents). x.prepared) votes.2
vote-rows s c now names t n key until vote.Taken known votes = ap (λ (x : Contents). x.prepared) votes.2
