-- Statements of laws: of votes and decisions that are asked again.
use Rattle.std.specs.Prelude.{◌≡◌, ℕ, List, true, MatchBool, Some}
use Rattle.store_laws.specs.Stored.{Stored}
use Rattle.event_text.specs.EventText.{events_of_kinds}
use Rattle.journal.specs.declared.outcome_row.Outcome.{Outcome}
use Rattle.journal.specs.declared.prepared_row.Prepared.{Prepared}
use Rattle.journal.specs.Contents.{Contents}
use Rattle.durable_store.specs.Durable.{prepared_in}
use Rattle.durable_store.specs.Held.{ArePrepared, has_key}
use Rattle.durable_store.specs.Keys.{outcome_under}
use Rattle.durable_store.specs.Votes.{Decides, Votes, agrees}
use Rattle.durable_store.specs.declared.votes.Decision.{Decision}
use Rattle.durable_store.specs.declared.votes.Verdict.{Verdict}
use Rattle.durable_store.specs.declared.votes.Verdict.TheVariants.{Decided, Otherwise}
use Rattle.durable_store.specs.declared.votes.Vote.{Vote}
use Rattle.durable_store.specs.declared.votes.Vote.TheVariants as vote

-- what a file says of who is prepared is as it is in a store's file
abbrev pub KnowsPrepared : Contents → Type 0
KnowsPrepared c = ArePrepared (events_of_kinds c.events) c (prepared_in c)

-- where a decision was done, its key says so
abbrev pub DecisionIsKept : Type 0
DecisionIsKept =
    (old new : Stored) (c now : Contents) (key : List ℕ) (d : Decision) → Decides old new c now key d Decided
    → (outcome : Outcome) × (outcome_under now key ≡ Some outcome) × (agrees d outcome ≡ true)

-- where a key says what became of its transaction, a decision that agrees is done already, another one is told so, and nothing changes
abbrev pub KnownIsAnswered : Type 0
KnownIsAnswered =
    (old new : Stored) (c now : Contents) (key : List ℕ) (d : Decision) (outcome : Outcome) (came : Verdict) → KnowsPrepared c → outcome_under c key ≡ Some outcome
    → Decides old new c now key d came → MatchBool (agrees d outcome) (came ≡ Decided) (came ≡ Otherwise outcome) × (new ≡ old) × (now ≡ c)

-- who was prepared by a vote is prepared under its key; where it is asked again while nothing came between, it was so before, and nothing changes
abbrev pub VoteStays : Type 0
VoteStays =
    (s : Stored) (c now later : Contents) (p q : Prepared) (came : Vote) → s.history ≡ events_of_kinds c.events → Votes s c p vote.Prepared now
    → q.number ≡ p.number → Votes s now q came later → MatchBool (has_key q.key p) (came ≡ vote.Again) (came ≡ vote.Otherwise) × (later ≡ now)
