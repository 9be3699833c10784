-- What a row that is prepared goes through where a line is answered.
use Rattle.std.proofs.Common.{◌≡◌, ◌∙◌, ◌⊎◌, inl, inr, ℕ, true, false, List, [], ◌∷◌, ◌++◌, Option, Some, None, Result, Ok, Err, refl, sym, ap, subst}
use Rattle.std.specs.Prelude.{◌==◌, MatchOption, MatchResult}
use Rattle.std.proofs.lemmas.Bool.{false≢true, ne_eqb}
use Rattle.std.proofs.lemmas.Slice.Eq.{bytes_eq-Decides}
use Rattle.transaction_key.specs.TransactionKey.{key_place}
use Rattle.serial_order.specs.History.{is_open, summary}
use Rattle.serial_order.specs.Operations.{is_among}
use Rattle.serial_order.specs.declared.refusal.Refusal.TheVariants.{NotOpen}
use Rattle.store_laws.specs.Stored.{Stored}
use Rattle.attempts.specs.declared.outcome.Ending.{Ending}
use Rattle.attempts.specs.declared.outcome.Ending.TheVariants as ending
use Rattle.journal.specs.declared.outcome_row.KeyedOutcome.{KeyedOutcome}
use Rattle.journal.specs.declared.outcome_row.Outcome.{Outcome}
use Rattle.journal.specs.declared.outcome_row.Outcome.TheVariants.{Aborted, Committed}
use Rattle.journal.specs.declared.prepared_row.Prepared.{Prepared}
use Rattle.journal.specs.Contents.{Contents}
use Rattle.journal.specs.Outcomes.{Outcomes}
use Rattle.durable_store.specs.Durable.{prepared_in}
use Rattle.durable_store.specs.Held.{has_key, prepared_numbers}
use Rattle.durable_store.specs.Keys.{IsFree, IsInState, KnowsKey, outcome_under}
use Rattle.durable_store.specs.Votes.{Decides, IsDecidedElse, Votes, decided_command, decided_outcome}
use Rattle.durable_store.specs.declared.denial.Denial.{Denial}
use Rattle.durable_store.specs.declared.denial.Denial.TheVariants as denied
use Rattle.durable_store.specs.declared.keyed.Keyed.{Keyed}
use Rattle.durable_store.specs.declared.keyed.Keyed.TheVariants as keyed
use Rattle.durable_store.specs.declared.keyed.KeyState.{KeyState}
use Rattle.durable_store.specs.declared.keyed.KeyState.TheVariants as state
use Rattle.durable_store.specs.declared.keyed.Unfinished.{Unfinished}
use Rattle.durable_store.specs.declared.keyed.Unfinished.TheVariants as unfinished
use Rattle.durable_store.specs.declared.votes.Decision.{Decision}
use Rattle.durable_store.specs.declared.votes.Decision.TheVariants as decision
use Rattle.durable_store.specs.declared.votes.Verdict.{Verdict}
use Rattle.durable_store.specs.declared.votes.Verdict.TheVariants as verdict
use Rattle.durable_store.specs.declared.votes.Vote.{Vote}
use Rattle.durable_store.specs.declared.votes.Vote.TheVariants as vote
use Rattle.durable_store.proofs.HeldKeys.{same-key}
use Rattle.request_text.specs.Requests.{asked_by}
use Rattle.request_text.specs.declared.fault.RequestFault.{RequestFault}
use Rattle.request_text.specs.declared.request.Decision.{Decision as Asked}
use Rattle.request_text.specs.declared.request.Request.{Request}
use Rattle.request_text.specs.declared.request.Request.TheVariants as request
use Rattle.request_text.specs.declared.request.TransactionName.{TransactionName}
use Rattle.serving.specs.declared.answer_line.AnswerLine.{AnswerLine}
use Rattle.serving.specs.declared.answer_line.AnswerLine.TheVariants.{Fault, Refused}
use Rattle.serving.specs.declared.answer_line.Answered.{Answered}
use Rattle.serving.specs.Does.{is_epoch_full}
use Rattle.serving.specs.Keys.{commit_under_answer, do_under_answer, draining_under, kept_answered, kept_by, outcomes_after, said_after, unknown_under}
use Rattle.serving.specs.Names.{KnownNames, number_named}
use Rattle.serving.specs.Prepared.{decision_of, now_says, prepared_after, prepared_answered, prepared_as, rows_as, verdict_answer, vote_answer}
use Rattle.serving.specs.Requests.{DoesRequest}
use Rattle.serving.specs.Served.{IsAnswered}
use Rattle.serving.specs.Several.{ended_answer}
use Rattle.serving.proofs.InTurns.{either, if-known}
use Rattle.held_votes.specs.VotesHeld.{operations_at}
use Rattle.held_votes.proofs.OwnEvents.{works-beside}
use Rattle.held_votes.proofs.Commands.{GoesBeside, IsOfOthers, stays-beside, step-beside}
use Rattle.held_votes.proofs.Outcomes.{IsKnown, known-now, known-place, other-place}
use Rattle.held_votes.proofs.Requests.{request-beside}
use Rattle.held_votes.proofs.Rows.{HaveBegun, Holds, IsBesideRow, holds-among, holds-began, holds-beside, holds-kept, holds-more, found-beside, number-apart, place-apart}

-- ---- what becomes of a row

-- it is held in a store, with what survived of its transaction in another
abbrev pub IsStill : Prepared → Stored → Stored → List Prepared → Outcomes → Type 0
IsStill p old new rows outcomes = Holds new.history rows outcomes p × ((x : ℕ) → operations_at new.history p.number x ≡ operations_at old.history p.number x)

-- or its key is known
abbrev pub IsStillOrKnown : Prepared → Stored → Stored → List Prepared → Outcomes → Type 0
IsStillOrKnown p old new rows outcomes = IsKnown outcomes p.key ⊎ IsStill p old new rows outcomes

-- events that don't concern it
pub goes-still : (p : Prepared) (old new : Stored) (rows : List Prepared) (outcomes : Outcomes) → Holds old.history rows outcomes p → HaveBegun old.history rows → GoesBeside p.number old new
    → IsStill p old new rows outcomes
goes-still p old new rows outcomes holds began (es, is, beside) = (
  subst (λ H. Holds H rows outcomes p) (sym is) (holds-beside old.history rows outcomes p holds es began beside),
  λ x. ap (λ H. operations_at H p.number x) is ∙ works-beside old.history es p.number x beside,
)

-- with other outcomes, where nothing is kept at its place
still-kept : (p : Prepared) (old new : Stored) (rows : List Prepared) (outcomes now : Outcomes) → IsStill p old new rows outcomes → now.at (key_place p.key) ≡ None → IsStill p old new rows now
still-kept p old new rows outcomes now (holds, works) free = (holds-kept new.history rows outcomes p holds now free, works)

-- ---- what is kept under other keys

module _ (c : Contents) (old : Stored) (p : Prepared) (holds : Holds old.history c.prepared c.outcomes p) where
  -- under a free key
  free-leaves : (o : KeyedOutcome) → IsFree (now_says c old) o.key → (outcomes_after (Some o) c.outcomes).at (key_place p.key) ≡ None
  free-leaves o free = other-place c.outcomes o (key_place p.key) (place-apart old.history c.prepared c.outcomes p holds o.key free.1) holds.free

  -- under one that is known
  known-leaves : (o : KeyedOutcome) (known : Outcome) → outcome_under (now_says c old) o.key ≡ Some known → (outcomes_after (Some o) c.outcomes).at (key_place p.key) ≡ None
  known-leaves o known is = known-place c.outcomes o known (key_place p.key) is holds.free

  commit-leaves : (t : TransactionName) (key : List ℕ) (came : Keyed Denial) → KnowsKey (now_says c old) key came
      → (outcomes_after (kept_by (request.CommitUnder t key) (commit_under_answer came)) c.outcomes).at (key_place p.key) ≡ None
  commit-leaves t key (keyed.Done kept) knows = free-leaves (record { key = key; outcome = Committed [] }) knows
  commit-leaves t key (keyed.Undone denied.Prepared) knows = holds.free
  commit-leaves t key (keyed.Undone (denied.Refused refusal)) knows = holds.free
  commit-leaves t key (keyed.Known (Committed replies)) knows = known-leaves (record { key = key; outcome = Committed [] }) (Committed replies) knows
  commit-leaves t key (keyed.Known Aborted) knows = holds.free
  commit-leaves t key keyed.Prepared knows = holds.free
  commit-leaves t key keyed.Taken knows = holds.free

  unknown-leaves : (t : TransactionName) (key : List ℕ) (known : KeyState) → IsInState (now_says c old) key known
      → (outcomes_after (kept_by (request.CommitUnder t key) (unknown_under known)) c.outcomes).at (key_place p.key) ≡ None
  unknown-leaves t key state.Free knows = holds.free
  unknown-leaves t key (state.Known (Committed replies)) knows = known-leaves (record { key = key; outcome = Committed [] }) (Committed replies) knows
  unknown-leaves t key (state.Known Aborted) knows = holds.free
  unknown-leaves t key state.Prepared knows = holds.free
  unknown-leaves t key state.Taken knows = holds.free

  ended-leaves : (key : List ℕ) (names : KnownNames) (at : ℕ) (how : Ending) → (outcomes_after (kept_by (request.DoUnder key) (ended_answer names at how)) c.outcomes).at (key_place p.key) ≡ None
  ended-leaves key names at (ending.Busy u) = holds.free
  ended-leaves key names at ending.None = holds.free
  ended-leaves key names at (ending.Refused refusal) = holds.free

  do-leaves : (key : List ℕ) (names : KnownNames) (came : Keyed Unfinished) → KnowsKey (now_says c old) key came
      → (outcomes_after (kept_by (request.DoUnder key) (do_under_answer names came)) c.outcomes).at (key_place p.key) ≡ None
  do-leaves key names (keyed.Done (Committed replies)) knows = free-leaves (record { key = key; outcome = Committed replies }) knows
  do-leaves key names (keyed.Done Aborted) knows = holds.free
  do-leaves key names (keyed.Undone (unfinished.Ended at how)) knows = ended-leaves key names at how
  do-leaves key names (keyed.Undone (unfinished.NotBegun refusal)) knows = holds.free
  do-leaves key names (keyed.Known (Committed replies)) knows = known-leaves (record { key = key; outcome = Committed replies }) (Committed replies) knows
  do-leaves key names (keyed.Known Aborted) knows = holds.free
  do-leaves key names keyed.Prepared knows = holds.free
  do-leaves key names keyed.Taken knows = holds.free

  draining-leaves : (key : List ℕ) (known : KeyState) → IsInState (now_says c old) key known
      → (outcomes_after (kept_by (request.DoUnder key) (draining_under known)) c.outcomes).at (key_place p.key) ≡ None
  draining-leaves key state.Free knows = holds.free
  draining-leaves key (state.Known (Committed replies)) knows = known-leaves (record { key = key; outcome = Committed replies }) (Committed replies) knows
  draining-leaves key (state.Known Aborted) knows = holds.free
  draining-leaves key state.Prepared knows = holds.free
  draining-leaves key state.Taken knows = holds.free

  -- ---- a decision

  -- of another one
  decided-other : (d : Decision) (t : ℕ) → (t == p.number) ≡ false → IsOfOthers p.number (decided_command d t)
  decided-other decision.Commit t other = other
  decided-other decision.Abort t other = other

  decide-still : (began : HaveBegun old.history c.prepared) (key : List ℕ) (d : Asked) (new : Stored) (now : Contents) (came : Verdict) → Decides old new (now_says c old) now key (decision_of d) came
      → IsStillOrKnown p old new c.prepared (outcomes_after (kept_by (request.Decide key d) (verdict_answer came)) c.outcomes)
  decide-still began key d new now verdict.Decided (inl ends) = by (found-beside old.history c.prepared c.outcomes p holds (has_key key) ends.p ends.there)
    where
      o : KeyedOutcome
      o = record { key = key; outcome = decided_outcome (decision_of d) }

      by : (IsBesideRow old.history p ends.p × (is_open (summary old.history) ends.p.number ≡ true)) × (has_key key ends.p ≡ true) → IsStillOrKnown p old new c.prepared (outcomes_after (Some o) c.outcomes)
      by ((inl closed, opened), mine) = absurd (false≢true (sym closed ∙ opened))
      by ((inr (inl same), opened), mine) =
          let keys : p.key ≡ key = ap (λ (q : Prepared). q.key) (sym same) ∙ (bytes_eq-Decides ends.p.key key).0 mine in
          inl (subst (λ k. IsKnown (outcomes_after (Some o) c.outcomes) k) (sym keys) (known-now c.outcomes key (decided_outcome (decision_of d)) (ap (λ k. c.outcomes.at (key_place k)) (sym keys) ∙ holds.free)))
      by ((inr (inr (number, place)), opened), mine) =
          let other : (ends.p.number == p.number) ≡ false = ne_eqb ends.p.number p.number number in
          let beside = step-beside p.number old (decided_command (decision_of d) ends.p.number) (Ok (tt {0})) new (decided-other (decision_of d) ends.p.number other) ends.step in
          inr (still-kept p old new c.prepared c.outcomes (outcomes_after (Some o) c.outcomes) (goes-still p old new c.prepared c.outcomes holds began beside)
          (other-place c.outcomes o (key_place p.key) (λ same. place (same-key key ends.p mine ∙ sym same)) holds.free))
  decide-still began key d new now verdict.Decided (inr (before, same)) =
      let o : KeyedOutcome = record { key = key; outcome = decided_outcome (decision_of d) } in
      inr (still-kept p old new c.prepared c.outcomes (outcomes_after (Some o) c.outcomes) (goes-still p old new c.prepared c.outcomes holds began (stays-beside p.number old new same)) (by before))
    where
      by : IsDecidedElse (now_says c old) now key (decision_of d) → (outcomes_after (Some (record { key = key; outcome = decided_outcome (decision_of d) })) c.outcomes).at (key_place p.key) ≡ None
      by (inl known) = known-leaves (record { key = key; outcome = decided_outcome (decision_of d) }) known.0 known.1
      by (inr aborted) = free-leaves (record { key = key; outcome = decided_outcome (decision_of d) }) aborted.1
  decide-still began key d new now (verdict.Otherwise known) did = inr (goes-still p old new c.prepared c.outcomes holds began (stays-beside p.number old new did.2))
  decide-still began key d new now verdict.Unknown did = inr (goes-still p old new c.prepared c.outcomes holds began (stays-beside p.number old new did.2))
  decide-still began key d new now verdict.Taken did = inr (goes-still p old new c.prepared c.outcomes holds began (stays-beside p.number old new did.1))

  -- ---- a vote

  -- another one's row comes behind
  voted-still : (began : HaveBegun old.history c.prepared) (names : KnownNames) (t : TransactionName) (key : List ℕ) (until n : ℕ) (new : Stored) → number_named names t ≡ Some n → new ≡ old → (came : Vote) (now : Contents)
      → Votes old (now_says c old) (prepared_as t n key until) came now → IsStill p old new (prepared_after names (request.Prepare t key until) (vote_answer came) c.prepared) c.outcomes
  voted-still began names t key until n new is same vote.Prepared now did =
      let q = prepared_as t n key until in
      let apart = place-apart old.history c.prepared c.outcomes p holds key did.2.1 in
      let more = holds-more old.history c.prepared c.outcomes p holds q (λ equal. number-apart old.history c.prepared c.outcomes p holds n did.1 (sym equal)) (λ equal. apart (sym equal)) in
      subst (λ found. IsStill p old new (c.prepared ++ rows_as found t key until) c.outcomes) (sym is) (
        subst (λ (s : Stored). Holds s.history (c.prepared ++ q ∷ []) c.outcomes p) (sym same) more,
        λ x. ap (λ (s : Stored). operations_at s.history p.number x) same,
      )
  voted-still began names t key until n new is same vote.Again now did = goes-still p old new c.prepared c.outcomes holds began (stays-beside p.number old new same)
  voted-still began names t key until n new is same vote.NotOpen now did = goes-still p old new c.prepared c.outcomes holds began (stays-beside p.number old new same)
  voted-still began names t key until n new is same vote.Otherwise now did = goes-still p old new c.prepared c.outcomes holds began (stays-beside p.number old new same)
  voted-still began names t key until n new is same vote.KeyInUse now did = goes-still p old new c.prepared c.outcomes holds began (stays-beside p.number old new same)
  voted-still began names t key until n new is same (vote.Known (Committed replies)) now did = goes-still p old new c.prepared c.outcomes holds began (stays-beside p.number old new same)
  voted-still began names t key until n new is same (vote.Known Aborted) now did = goes-still p old new c.prepared c.outcomes holds began (stays-beside p.number old new same)
  voted-still began names t key until n new is same vote.Taken now did = goes-still p old new c.prepared c.outcomes holds began (stays-beside p.number old new same)

  -- ---- each request

  request-still : (began : HaveBegun old.history c.prepared) (most : ℕ) (names : KnownNames) (ps : List Prepared) (line : List ℕ) (r : Request) (a : AnswerLine) (new : Stored) → ps ≡ prepared_in (now_says c old)
      → DoesRequest (Unit {0}) most names c ps line old r a new → IsStillOrKnown p old new (prepared_after names r a c.prepared) (outcomes_after (kept_by r a) c.outcomes)
  request-still began most names ps line (request.CommitUnder t key) a new are does =
      let among = subst (λ (qs : List Prepared). is_among (prepared_numbers qs) p.number ≡ true) (sym are) (holds-among old.history c.prepared c.outcomes p holds) in
      let beside = request-beside most names c ps line old (request.CommitUnder t key) a new p.number does among (holds-began old.history c.prepared c.outcomes p holds) in
      let leaves : (outcomes_after (kept_by (request.CommitUnder t key) a) c.outcomes).at (key_place p.key) ≡ None =
      if-known (number_named names t) does
      (λ q. subst (λ x. (outcomes_after (kept_by (request.CommitUnder t key) x) c.outcomes).at (key_place p.key) ≡ None) (sym q.2) (unknown-leaves t key q.0 (q.1 tt)))
      (λ n q. subst (λ x. (outcomes_after (kept_by (request.CommitUnder t key) x) c.outcomes).at (key_place p.key) ≡ None) (sym q.3) (commit-leaves t key q.0 (q.1 tt))) in
      inr (still-kept p old new c.prepared c.outcomes (outcomes_after (kept_by (request.CommitUnder t key) a) c.outcomes) (goes-still p old new c.prepared c.outcomes holds began beside) leaves)
  request-still began most names ps line (request.DoUnder key) a new are does =
      let among = subst (λ (qs : List Prepared). is_among (prepared_numbers qs) p.number ≡ true) (sym are) (holds-among old.history c.prepared c.outcomes p holds) in
      let beside = request-beside most names c ps line old (request.DoUnder key) a new p.number does among (holds-began old.history c.prepared c.outcomes p holds) in
      let leaves : (outcomes_after (kept_by (request.DoUnder key) a) c.outcomes).at (key_place p.key) ≡ None =
      either (is_epoch_full most old) does
      (λ q. subst (λ x. (outcomes_after (kept_by (request.DoUnder key) x) c.outcomes).at (key_place p.key) ≡ None) (sym q.2) (draining-leaves key q.0 (q.1 tt)))
      (λ q. subst (λ x. (outcomes_after (kept_by (request.DoUnder key) x) c.outcomes).at (key_place p.key) ≡ None) (sym q.5) (do-leaves key names q.2 (q.3 tt))) in
      inr (still-kept p old new c.prepared c.outcomes (outcomes_after (kept_by (request.DoUnder key) a) c.outcomes) (goes-still p old new c.prepared c.outcomes holds began beside) leaves)
  request-still began most names ps line (request.Decide key d) a new are does =
      let decides = does.1 tt in
      subst (λ x. IsStillOrKnown p old new c.prepared (outcomes_after (kept_by (request.Decide key d) x) c.outcomes)) (sym does.2) (decide-still began key d new decides.0 does.0 decides.1)
  request-still began most names ps line (request.Prepare t key until) a new are does = by (number_named names t) refl does.1
    where
      by : (found : Option ℕ) → number_named names t ≡ found
          → MatchOption found (a ≡ Refused NotOpen) (λ n. (came : Vote) × (Unit {0} → (now : Contents) × Votes old (now_says c old) (prepared_as t n key until) came now) × (a ≡ vote_answer came))
          → IsStillOrKnown p old new (prepared_after names (request.Prepare t key until) a c.prepared) c.outcomes
      by None is told =
          subst (λ x. IsStillOrKnown p old new (prepared_after names (request.Prepare t key until) x c.prepared) c.outcomes) (sym told)
          (inr (goes-still p old new c.prepared c.outcomes holds began (stays-beside p.number old new does.0)))
      by (Some n) is (came, votes, told) =
          let did = votes tt in
          subst (λ x. IsStillOrKnown p old new (prepared_after names (request.Prepare t key until) x c.prepared) c.outcomes) (sym told) (inr (voted-still began names t key until n new is does.0 came did.0 did.1))
  request-still began most names ps line r a new are does =
      let among = subst (λ (qs : List Prepared). is_among (prepared_numbers qs) p.number ≡ true) (sym are) (holds-among old.history c.prepared c.outcomes p holds) in
      inr (goes-still p old new c.prepared c.outcomes holds began (request-beside most names c ps line old r a new p.number does among (holds-began old.history c.prepared c.outcomes p holds)))

  pub answered-still : (began : HaveBegun old.history c.prepared) (most : ℕ) (names : KnownNames) (line : List ℕ) (a : Answered) (new : Stored) → IsAnswered (Unit {0}) most names c line old a new
      → IsStillOrKnown p old new (said_after names c line a.answer).prepared (said_after names c line a.answer).outcomes
  answered-still began most names line a new answered =
      elim (asked_by line).request as (λ (q : Result Request RequestFault). MatchResult q (λ r. DoesRequest (Unit {0}) most names c answered.prepared line old r a.answer new) (λ fault. (a.answer ≡ Fault fault) × (new ≡ old))
      → IsStillOrKnown p old new (prepared_answered names q a.answer c.prepared) (outcomes_after (kept_answered q a.answer) c.outcomes)) [
        | Ok r ↦ λ does. request-still began most names answered.prepared line r a.answer new (answered.are tt) does
        | Err fault ↦ λ told. inr (goes-still p old new c.prepared c.outcomes holds began (stays-beside p.number old new told.1))
      ] answered.request
