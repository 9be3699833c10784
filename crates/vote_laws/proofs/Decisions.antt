-- What was decided is kept, and is answered from then on.
use Rattle.std.proofs.Common.{◌≡◌, ◌∙◌, ℕ, Bool, true, false, cond, List, Option, Some, None, MatchBool, drop, length, refl, sym, ap, subst, inl, inr}
use Rattle.std.specs.Str.{bytes_eq}
use Rattle.std.proofs.lemmas.Bool.{eq-eqb, eqb-true, false≢true}
use Rattle.std.proofs.lemmas.Option.{none-some, same_Some}
use Rattle.std.proofs.lemmas.Slice.Eq.{bytes_eq-Decides}
use Rattle.store_laws.specs.Stored.{Stored}
use Rattle.transaction_key.specs.TransactionKey.{key_place}
use Rattle.journal.specs.declared.outcome_row.KeyedOutcome.{KeyedOutcome}
use Rattle.journal.specs.declared.outcome_row.Outcome.{Outcome}
use Rattle.journal.specs.declared.outcome_row.Outcome.TheVariants.{Aborted}
use Rattle.journal.specs.declared.prepared_row.Prepared.{Prepared}
use Rattle.journal.specs.Contents.{Contents}
use Rattle.durable_store.specs.Durable.{prepared_in, with_all}
use Rattle.durable_store.specs.Held.{first_passing, has_key, has_place}
use Rattle.durable_store.specs.Keys.{IsFree, IsTaken, outcome_for, outcome_under, with_key}
use Rattle.durable_store.specs.Votes.{Decides, IsDecidedElse, agrees, decided_outcome}
use Rattle.durable_store.specs.declared.votes.Decision.{Decision}
use Rattle.durable_store.specs.declared.votes.Decision.TheVariants as decision
use Rattle.durable_store.specs.declared.votes.Verdict.{Verdict}
use Rattle.durable_store.specs.declared.votes.Verdict.TheVariants as verdict
use Rattle.durable_store.proofs.HeldKeys.{first-is, same-place}
use Rattle.vote_laws.specs.Laws.{DecisionIsKept, KnowsPrepared, KnownIsAnswered}

-- ---- it is kept

agrees-decided : (d : Decision) → agrees d (decided_outcome d) ≡ true
agrees-decided decision.Commit = refl
agrees-decided decision.Abort = refl

-- a key says what is kept under it
kept-says : (c : Contents) (key : List ℕ) (outcome : Outcome) → outcome_under (with_key key (Some outcome) c) key ≡ Some outcome
kept-says c key outcome = rw (eq-eqb (key_place key) (key_place key) refl, (bytes_eq-Decides key key).1 refl) refl

pub decision_is_kept : DecisionIsKept
decision_is_kept old new c now key d done =
    elim done [
      | inl ends ↦ (decided_outcome d, ap (λ (k : Contents). outcome_under k key) ends.written ∙ kept-says (with_all c (drop (length old.history) new.history)) key (decided_outcome d), agrees-decided d)
      | inr other ↦ else other.0
    ]
  where
    else : IsDecidedElse c now key d → (outcome : Outcome) × (outcome_under now key ≡ Some outcome) × (agrees d outcome ≡ true)
    else (inl known) = (known.0, ap (λ (k : Contents). outcome_under k key) known.3 ∙ known.1, known.2)
    else (inr aborted) = (Aborted, ap (λ (k : Contents). outcome_under k key) aborted.2 ∙ kept-says c key Aborted, ap (λ e. agrees e Aborted) aborted.0)

-- ---- it is answered

module _ (c : Contents) (key : List ℕ) (outcome : Outcome) (known : outcome_under c key ≡ Some outcome) where
  -- something of this key is kept at its place
  kept : (o : KeyedOutcome) × (c.outcomes.at (key_place key) ≡ Some o) × (bytes_eq o.key key ≡ true)
  kept = by (c.outcomes.at (key_place key)) refl known
    where
      own : (o : KeyedOutcome) (b : Bool) → cond b (Some o.outcome) None ≡ Some outcome → b ≡ true
      own o true is = refl
      own o false is = absurd (none-some outcome is)

      by : (at : Option KeyedOutcome) → c.outcomes.at (key_place key) ≡ at → outcome_for key at ≡ Some outcome → (o : KeyedOutcome) × (c.outcomes.at (key_place key) ≡ Some o) × (bytes_eq o.key key ≡ true)
      by None at is = absurd (none-some outcome is)
      by (Some o) at is = (o, at, own o (bytes_eq o.key key) is)

  -- so it isn't free
  not-free : IsFree c key → ⊥
  not-free free = none-some (kept.0) (sym free.0 ∙ kept.1)

  -- and nobody is prepared under a key of its place
  nobody : KnowsPrepared c → (p : Prepared) → first_passing (has_place key) (prepared_in c) ≡ Some p → ⊥
  nobody sound p found =
      let its = first-is (λ (p : Prepared). c.outcomes.at (key_place p.key) ≡ None) (has_place key) (prepared_in c) p sound.free found in
      none-some (kept.0) (sym its.0 ∙ ap c.outcomes.at (eqb-true (key_place p.key) (key_place key) its.1) ∙ kept.1)

  not-taken : KnowsPrepared c → IsTaken c key → ⊥
  not-taken sound (inl other) =
      let same : kept.0 ≡ other.0 = same_Some kept.0 other.0 (sym kept.1 ∙ other.1) in
      false≢true (sym other.2 ∙ ap (λ (o : KeyedOutcome). bytes_eq o.key key) (sym same) ∙ kept.2)
  not-taken sound (inr held) = nobody sound held.0 held.1

  not-held : KnowsPrepared c → (p : Prepared) → first_passing (has_key key) (prepared_in c) ≡ Some p → ⊥
  not-held sound p found =
      let its = first-is (λ (p : Prepared). c.outcomes.at (key_place p.key) ≡ None) (has_key key) (prepared_in c) p sound.free found in
      none-some (kept.0) (sym its.0 ∙ ap c.outcomes.at (eqb-true (key_place p.key) (key_place key) (same-place key p its.1)) ∙ kept.1)

  answered : (old new : Stored) (now : Contents) (d : Decision) (came : Verdict) → KnowsPrepared c → Decides old new c now key d came
      → MatchBool (agrees d outcome) (came ≡ verdict.Decided) (came ≡ verdict.Otherwise outcome) × (new ≡ old) × (now ≡ c)
  answered old new now d verdict.Decided sound (inl ends) = absurd (not-held sound ends.p ends.there)
  answered old new now d verdict.Decided sound (inr (inl was, same)) =
      let is : was.0 ≡ outcome = same_Some was.0 outcome (sym was.1 ∙ known) in
      (subst (λ a. MatchBool a (verdict.Decided ≡ verdict.Decided) (verdict.Decided ≡ verdict.Otherwise outcome)) (sym (ap (agrees d) (sym is) ∙ was.2)) refl, same, was.3)
  answered old new now d verdict.Decided sound (inr (inr aborted, same)) = absurd (not-free aborted.1)
  answered old new now d (verdict.Otherwise other) sound does =
      let is : other ≡ outcome = same_Some other outcome (sym does.0 ∙ known) in
      (subst (λ a. MatchBool a (verdict.Otherwise other ≡ verdict.Decided) (verdict.Otherwise other ≡ verdict.Otherwise outcome)) (sym (ap (agrees d) (sym is) ∙ does.1)) (ap verdict.Otherwise is), does.2, does.3)
  answered old new now d verdict.Unknown sound does = absurd (not-free does.1)
  answered old new now d verdict.Taken sound does = absurd (not-taken sound does.0)

pub known_is_answered : KnownIsAnswered
known_is_answered old new c now key d outcome came sound known does = answered c key outcome known old new now d came sound does
