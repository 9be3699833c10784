-- What is known of a key, and what a vote and a decision come to, where a file says the same of keys and of who was prepared.
use Rattle.std.proofs.Common.{◌≡◌, inl, inr, ℕ, Bool, List, Option, Some, None, refl, subst}
use Rattle.store_laws.specs.Stored.{Stored}
use Rattle.journal.specs.declared.outcome_row.Outcome.{Outcome}
use Rattle.journal.specs.declared.outcome_row.Outcome.TheVariants.{Aborted}
use Rattle.journal.specs.declared.prepared_row.Prepared.{Prepared}
use Rattle.journal.specs.Contents.{Contents, with_prepared}
use Rattle.journal.specs.Outcomes.{Outcomes}
use Rattle.durable_store.specs.Durable.{prepared_in, kinds, with_all}
use Rattle.durable_store.specs.Held.{first_passing}
use Rattle.durable_store.specs.Keys.{IsFree, IsInState, IsPreparedUnder, IsTaken, KnowsKey, outcome_under, with_key}
use Rattle.durable_store.specs.Votes.{Decides, EndsPrepared, IsDecidedElse, Votes, decided_outcome}
use Rattle.durable_store.specs.declared.keyed.Keyed.{Keyed}
use Rattle.durable_store.specs.declared.keyed.Keyed.TheVariants as keyed
use Rattle.durable_store.specs.declared.keyed.KeyState.{KeyState}
use Rattle.durable_store.specs.declared.keyed.KeyState.TheVariants as state
use Rattle.durable_store.specs.declared.votes.Decision.{Decision}
use Rattle.durable_store.specs.declared.votes.Verdict.{Verdict}
use Rattle.durable_store.specs.declared.votes.Verdict.TheVariants as verdict
use Rattle.durable_store.specs.declared.votes.Vote.{Vote}
use Rattle.durable_store.specs.declared.votes.Vote.TheVariants as vote
use Rattle.std.specs.Prelude.{drop, length}
use Rattle.serving.specs.NextEpoch.{SaysSame}
use Rattle.serving.specs.Prepared.{now_says}

-- what another file says, with these outcomes and prepared transactions, where its history is that of this store
abbrev with_said : Contents → Stored → Outcomes → List Prepared → Contents
with_said d s outcomes prepared = record d { events = kinds s.history; outcomes = outcomes; prepared = prepared }

module _ (c d : Contents) (s : Stored) (same : SaysSame c d) where
  turned : (P : Outcomes → List Prepared → Type 0) → P d.outcomes d.prepared → P c.outcomes c.prepared
  turned P it = subst (λ outcomes. P outcomes c.prepared) same.2 (subst (λ prepared. P d.outcomes prepared) same.3 it)

  -- ---- a key

  free-as : (key : List ℕ) → IsFree (now_says d s) key → IsFree (now_says c s) key
  free-as key = turned (λ outcomes prepared. IsFree (with_said d s outcomes prepared) key)

  under-as : (key : List ℕ) → IsPreparedUnder (now_says d s) key → IsPreparedUnder (now_says c s) key
  under-as key = turned (λ outcomes prepared. IsPreparedUnder (with_said d s outcomes prepared) key)

  taken-as : (key : List ℕ) → IsTaken (now_says d s) key → IsTaken (now_says c s) key
  taken-as key = turned (λ outcomes prepared. IsTaken (with_said d s outcomes prepared) key)

  outcome-as : (key : List ℕ) (outcome : Outcome) → outcome_under (now_says d s) key ≡ Some outcome → outcome_under (now_says c s) key ≡ Some outcome
  outcome-as key outcome = turned (λ outcomes prepared. outcome_under (with_said d s outcomes prepared) key ≡ Some outcome)

  passing-as : (test : Prepared → Bool) (found : Option Prepared) → first_passing test (prepared_in (now_says d s)) ≡ found → first_passing test (prepared_in (now_says c s)) ≡ found
  passing-as test found = turned (λ outcomes prepared. first_passing test (prepared_in (with_said d s outcomes prepared)) ≡ found)

  pub knows-as : {T : Type 0} (key : List ℕ) (came : Keyed T) → KnowsKey (now_says d s) key came → KnowsKey (now_says c s) key came
  knows-as key (keyed.Done kept) knows = free-as key knows
  knows-as key (keyed.Undone why) knows = free-as key knows
  knows-as key (keyed.Known known) knows = outcome-as key known knows
  knows-as key keyed.Prepared knows = under-as key knows
  knows-as key keyed.Taken knows = taken-as key knows

  pub state-as : (key : List ℕ) (known : KeyState) → IsInState (now_says d s) key known → IsInState (now_says c s) key known
  state-as key state.Free knows = free-as key knows
  state-as key (state.Known known) knows = outcome-as key known knows
  state-as key state.Prepared knows = under-as key knows
  state-as key state.Taken knows = taken-as key knows

  -- ---- a vote

  pub votes-as : (p : Prepared) (came : Vote) (now : Contents) → Votes s (now_says d s) p came now → (then : Contents) × Votes s (now_says c s) p came then
  votes-as p vote.Prepared now votes = (with_prepared (now_says c s) p, (votes.0, passing-as _ None votes.1, free-as p.key votes.2, refl))
  votes-as p vote.Again now votes = (now_says c s, ((votes.0.0, passing-as _ (Some votes.0.0) votes.0.1, votes.0.2), refl))
  votes-as p vote.NotOpen now votes = (now_says c s, (votes.0, refl))
  votes-as p vote.Otherwise now votes = (now_says c s, ((votes.0.0, passing-as _ (Some votes.0.0) votes.0.1, votes.0.2), refl))
  votes-as p vote.KeyInUse now votes = (now_says c s, (passing-as _ None votes.0, under-as p.key votes.1, refl))
  votes-as p (vote.Known outcome) now votes = (now_says c s, (passing-as _ None votes.0, outcome-as p.key outcome votes.1, refl))
  votes-as p vote.Taken now votes = (now_says c s, (passing-as _ None votes.0, taken-as p.key votes.1, refl))

  -- ---- a decision

  ends-as : (new : Stored) (key : List ℕ) (e : Decision) (now : Contents) → EndsPrepared s new (now_says d s) now key e
      → (then : Contents) × EndsPrepared s new (now_says c s) then key e
  ends-as new key e now ends = (
    with_key key (Some (decided_outcome e)) (with_all (now_says c s) (drop (length s.history) new.history)),
    record { p = ends.p; there = passing-as _ (Some ends.p) ends.there; step = ends.step; written = refl },
  )

  else-as : (key : List ℕ) (e : Decision) (now : Contents) → IsDecidedElse (now_says d s) now key e → (then : Contents) × IsDecidedElse (now_says c s) then key e
  else-as key e now (inl known) = (now_says c s, inl (known.0, outcome-as key known.0 known.1, known.2, refl))
  else-as key e now (inr kept) = (with_key key (Some Aborted) (now_says c s), inr (kept.0, free-as key kept.1, refl))

  pub decides-as : (new : Stored) (key : List ℕ) (e : Decision) (came : Verdict) (now : Contents) → Decides s new (now_says d s) now key e came
      → (then : Contents) × Decides s new (now_says c s) then key e came
  decides-as new key e verdict.Decided now (inl ends) = let it = ends-as new key e now ends in (it.0, inl it.1)
  decides-as new key e verdict.Decided now (inr (known, same)) = let it = else-as key e now known in (it.0, inr (it.1, same))
  decides-as new key e (verdict.Otherwise outcome) now it = (now_says c s, (outcome-as key outcome it.0, it.1, it.2, refl))
  decides-as new key e verdict.Unknown now it = (now_says c s, (it.0, free-as key it.1, it.2, refl))
  decides-as new key e verdict.Taken now it = (now_says c s, (taken-as key it.0, it.1, refl))
