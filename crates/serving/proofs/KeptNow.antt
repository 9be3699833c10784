-- What is done under keys, and of transactions that are prepared, over a file that says what it says where its history is that of its store.
use Rattle.std.proofs.Common.{◌≡◌, ◌∙◌, ℕ, List, Option, None, Some, drop, length, sym, ap, subst}
use Rattle.std.specs.Prelude.{MatchOption}
use Rattle.serial_order.specs.declared.refusal.Refusal.TheVariants.{NotOpen}
use Rattle.sqlite_trees.specs.declared.store.Store.{Ghosts}
use Rattle.attempts.specs.Commands.{CallAt}
use Rattle.serial_order.specs.Operations.{is_among}
use Rattle.journal.specs.Contents.{Contents}
use Rattle.journal.specs.Journal.{Clean, written}
use Rattle.durable_store.specs.declared.durable.Durable.{Durable}
use Rattle.durable_store.specs.Durable.{IsDurable, is_prepared, with_all}
use Rattle.durable_store.specs.Held.{prepared_numbers}
use Rattle.durable_store.specs.Keys.{AttemptsUnder, CommitsUnder, IsInState, KnowsKey, WritesUnder, kept_under}
use Rattle.durable_store.specs.Votes.{Decides, Votes}
use Rattle.journal.specs.declared.prepared_row.Prepared.{Prepared}
use Rattle.durable_store.specs.declared.denial.Denial.{Denial}
use Rattle.durable_store.specs.declared.keyed.Keyed.{Keyed}
use Rattle.durable_store.specs.declared.keyed.KeyState.{KeyState}
use Rattle.durable_store.specs.declared.keyed.Unfinished.{Unfinished}
use Rattle.durable_store.specs.declared.votes.Decision.{Decision}
use Rattle.durable_store.specs.declared.votes.Verdict.{Verdict}
use Rattle.durable_store.specs.declared.votes.Vote.{Vote}
use Rattle.request_text.specs.declared.request.Decision.{Decision as Asked}
use Rattle.request_text.specs.declared.request.Request.TheVariants as request
use Rattle.request_text.specs.declared.request.TransactionName.{TransactionName}
use Rattle.serving.specs.declared.answer_line.AnswerLine.{AnswerLine}
use Rattle.serving.specs.Keys.{DoesCommitUnder, DoesOutcome, commit_under_answer, do_under_answer, draining_under, kept_by, outcome_answer, outcomes_after, unknown_under}
use Rattle.serving.specs.declared.answer_line.AnswerLine.TheVariants.{Refused}
use Rattle.serving.specs.Names.{KnownNames, number_named}
use Rattle.serving.specs.Prepared.{DoesDecide, DoesPrepare, decision_of, now_says, prepared_after, prepared_as, verdict_answer, vote_answer}
use Rattle.serving.proofs.HeldSaid.{free-of, says-now}
use Rattle.serving.proofs.UnderKeys.{commit-keeps, decide-keeps, decide-rows, do-keeps, draining-keeps, key-rows, unknown-keeps, vote-keeps, vote-rows}

module _ {S : Type 0} (g : Ghosts S) (old new : Durable S) (sound : IsDurable g old) (clean : Clean g new.journal → Clean g old.journal) where
  -- what holds of what the file says, holds where its history is that of its store
  pub of-now : (P : Contents → Type 0) → (Clean g new.journal → P (written g old.journal)) → Clean g new.journal → P (now_says (written g old.journal) old.store)
  of-now P it now = subst P (sym (says-now g old sound (clean now))) (it now)

  -- ---- a commit under a key

  pub commits-here : (names : KnownNames) (t : TransactionName) (n : ℕ) (key : List ℕ) (came : Keyed Denial) (answer : AnswerLine) → number_named names t ≡ Some n → (Clean g new.journal → KnowsKey (written g old.journal) key came)
      → CommitsUnder (is_prepared old n) old.store n came new.store → answer ≡ commit_under_answer came → DoesCommitUnder (Clean g new.journal) names (written g old.journal) old.prepared.items old.store t key answer new.store
  commits-here names t n key came answer known knows did told =
      subst (λ (found : Option ℕ). MatchOption found
      ((state : KeyState) × (Clean g new.journal → IsInState (now_says (written g old.journal) old.store) key state) × (answer ≡ unknown_under state) × (new.store ≡ old.store))
      (λ n. (came : Keyed Denial) × (Clean g new.journal → KnowsKey (now_says (written g old.journal) old.store) key came) × CommitsUnder (is_among (prepared_numbers old.prepared.items) n) old.store n came new.store
      × (answer ≡ commit_under_answer came)))
      (sym known) (came, of-now (λ c. KnowsKey c key came) knows, did, told)

  pub commits-nobody : (names : KnownNames) (t : TransactionName) (key : List ℕ) (state : KeyState) (answer : AnswerLine) → number_named names t ≡ None → (Clean g new.journal → IsInState (written g old.journal) key state)
      → answer ≡ unknown_under state → new.store ≡ old.store → DoesCommitUnder (Clean g new.journal) names (written g old.journal) old.prepared.items old.store t key answer new.store
  commits-nobody names t key state answer none knows told stays =
      subst (λ (found : Option ℕ). MatchOption found
      ((state : KeyState) × (Clean g new.journal → IsInState (now_says (written g old.journal) old.store) key state) × (answer ≡ unknown_under state) × (new.store ≡ old.store))
      (λ n. (came : Keyed Denial) × (Clean g new.journal → KnowsKey (now_says (written g old.journal) old.store) key came) × CommitsUnder (is_among (prepared_numbers old.prepared.items) n) old.store n came new.store
      × (answer ≡ commit_under_answer came)))
      (sym none) (state, of-now (λ c. IsInState c key state) knows, told, stays)

  -- what the file knows of keys then
  pub commit-kept : (t : TransactionName) (n : ℕ) (key : List ℕ) (came : Keyed Denial) (answer : AnswerLine) → (Clean g new.journal → KnowsKey (written g old.journal) key came)
      → CommitsUnder (is_prepared old n) old.store n came new.store → (Clean g new.journal → WritesUnder g key came old new) → answer ≡ commit_under_answer came
      → Clean g new.journal → (written g new.journal).outcomes ≡ outcomes_after (kept_by (request.CommitUnder t key) answer) (written g old.journal).outcomes
  commit-kept t n key came answer knows did since told now =
      ap (λ (x : Contents). x.outcomes) (since now)
      ∙ (commit-keeps (written g old.journal) (drop (length old.store.history) new.store.history) (is_prepared old n) old.store n t key came new.store (knows now) did
      ∙ ap (λ a. outcomes_after (kept_by (request.CommitUnder t key) a) (written g old.journal).outcomes) (sym told))

  pub unknown-kept : (t : TransactionName) (key : List ℕ) (state : KeyState) (answer : AnswerLine) → (Clean g new.journal → IsInState (written g old.journal) key state)
      → (Clean g new.journal → written g new.journal ≡ written g old.journal) → answer ≡ unknown_under state
      → Clean g new.journal → (written g new.journal).outcomes ≡ outcomes_after (kept_by (request.CommitUnder t key) answer) (written g old.journal).outcomes
  unknown-kept t key state answer knows stays told now =
      ap (λ (x : Contents). x.outcomes) (stays now)
      ∙ (unknown-keeps (written g old.journal) t key state (knows now) ∙ ap (λ a. outcomes_after (kept_by (request.CommitUnder t key) a) (written g old.journal).outcomes) (sym told))

  pub do-kept : (names : KnownNames) (calls : List CallAt) (key : List ℕ) (came : Keyed Unfinished) (answer : AnswerLine) → (Clean g new.journal → KnowsKey (written g old.journal) key came) → AttemptsUnder old.store calls came new.store
      → (Clean g new.journal → WritesUnder g key came old new) → answer ≡ do_under_answer names came
      → Clean g new.journal → (written g new.journal).outcomes ≡ outcomes_after (kept_by (request.DoUnder key) answer) (written g old.journal).outcomes
  do-kept names calls key came answer knows did since told now =
      ap (λ (x : Contents). x.outcomes) (since now)
      ∙ (do-keeps (written g old.journal) (drop (length old.store.history) new.store.history) old.store calls names key came new.store (knows now) did
      ∙ ap (λ a. outcomes_after (kept_by (request.DoUnder key) a) (written g old.journal).outcomes) (sym told))

  pub draining-kept : (key : List ℕ) (known : KeyState) (answer : AnswerLine) → (Clean g new.journal → IsInState (written g old.journal) key known) → (Clean g new.journal → written g new.journal ≡ written g old.journal)
      → answer ≡ draining_under known → Clean g new.journal → (written g new.journal).outcomes ≡ outcomes_after (kept_by (request.DoUnder key) answer) (written g old.journal).outcomes
  draining-kept key known answer knows stays told now =
      ap (λ (x : Contents). x.outcomes) (stays now)
      ∙ (draining-keeps (written g old.journal) key known (knows now) ∙ ap (λ a. outcomes_after (kept_by (request.DoUnder key) a) (written g old.journal).outcomes) (sym told))

  -- and of who was prepared
  pub under-rows : {T : Type 0} (key : List ℕ) (came : Keyed T) → (Clean g new.journal → WritesUnder g key came old new) → Clean g new.journal → (written g new.journal).prepared ≡ (written g old.journal).prepared
  under-rows key came since now =
      ap (λ (x : Contents). x.prepared) (since now) ∙ key-rows key (kept_under came) (with_all (written g old.journal) (drop (length old.store.history) new.store.history))

  pub outcome-does : (key : List ℕ) (known : KeyState) (answer : AnswerLine) → (Clean g new.journal → IsInState (written g old.journal) key known) → answer ≡ outcome_answer known → new.store ≡ old.store
      → DoesOutcome (Clean g new.journal) (written g old.journal) old.store key answer new.store
  outcome-does key known answer knows told stays = (known, of-now (λ c. IsInState c key known) knows, told, stays)

  -- ---- a vote

  pub votes-here : (names : KnownNames) (t : TransactionName) (n : ℕ) (key : List ℕ) (until : ℕ) (came : Vote) (answer : AnswerLine) → number_named names t ≡ Some n
      → (Clean g new.journal → Votes old.store (written g old.journal) (prepared_as t n key until) came (written g new.journal)) → answer ≡ vote_answer came → new.store ≡ old.store
      → DoesPrepare (Clean g new.journal) names (written g old.journal) old.store t key until answer new.store
  votes-here names t n key until came answer known votes told stays = (
    stays,
    subst (λ (found : Option ℕ). MatchOption found (answer ≡ Refused NotOpen)
        (λ n. (came : Vote) × (Clean g new.journal → (now : Contents) × Votes old.store (now_says (written g old.journal) old.store) (prepared_as t n key until) came now) × (answer ≡ vote_answer came))) (sym known)
        (came, (λ now. (written g new.journal, of-now (λ c. Votes old.store c (prepared_as t n key until) came (written g new.journal)) votes now)), told),
  )

  pub votes-nobody : (names : KnownNames) (t : TransactionName) (key : List ℕ) (until : ℕ) (answer : AnswerLine) → number_named names t ≡ None → answer ≡ Refused NotOpen → new.store ≡ old.store
      → DoesPrepare (Clean g new.journal) names (written g old.journal) old.store t key until answer new.store
  votes-nobody names t key until answer none told stays = (
    stays,
    subst (λ (found : Option ℕ). MatchOption found (answer ≡ Refused NotOpen)
        (λ n. (came : Vote) × (Clean g new.journal → (now : Contents) × Votes old.store (now_says (written g old.journal) old.store) (prepared_as t n key until) came now) × (answer ≡ vote_answer came))) (sym none) told,
  )

  pub vote-kept : (p : Prepared) (came : Vote) → (Clean g new.journal → Votes old.store (written g old.journal) p came (written g new.journal)) → Clean g new.journal → (written g new.journal).outcomes ≡ (written g old.journal).outcomes
  vote-kept p came votes now = vote-keeps old.store (written g old.journal) (written g new.journal) p came (votes now)

  pub vote-added : (names : KnownNames) (t : TransactionName) (n : ℕ) (key : List ℕ) (until : ℕ) (came : Vote) (answer : AnswerLine) → number_named names t ≡ Some n
      → (Clean g new.journal → Votes old.store (written g old.journal) (prepared_as t n key until) came (written g new.journal)) → answer ≡ vote_answer came
      → Clean g new.journal → (written g new.journal).prepared ≡ prepared_after names (request.Prepare t key until) answer (written g old.journal).prepared
  vote-added names t n key until came answer known votes told now =
      vote-rows old.store (written g old.journal) (written g new.journal) names t n key until came known (votes now) ∙ ap (λ a. prepared_after names (request.Prepare t key until) a (written g old.journal).prepared) (sym told)

  -- ---- a decision

  pub decision-kept : (key : List ℕ) (asked : Asked) (came : Verdict) (answer : AnswerLine)
      → (Clean g new.journal → Decides old.store new.store (written g old.journal) (written g new.journal) key (decision_of asked) came) → answer ≡ verdict_answer came
      → Clean g new.journal → (written g new.journal).outcomes ≡ outcomes_after (kept_by (request.Decide key asked) answer) (written g old.journal).outcomes
  decision-kept key asked came answer decides told now =
      decide-keeps old.store new.store (written g old.journal) (written g new.journal) key asked came (λ p there. free-of g old sound (clean now) key p there) (decides now)
      ∙ ap (λ a. outcomes_after (kept_by (request.Decide key asked) a) (written g old.journal).outcomes) (sym told)

  pub decision-rows : (key : List ℕ) (asked : Asked) (came : Verdict) → (Clean g new.journal → Decides old.store new.store (written g old.journal) (written g new.journal) key (decision_of asked) came)
      → Clean g new.journal → (written g new.journal).prepared ≡ (written g old.journal).prepared
  decision-rows key asked came decides now = decide-rows old.store new.store (written g old.journal) (written g new.journal) key asked came (decides now)

  pub decision-does : (key : List ℕ) (d : Decision) (came : Verdict) (answer : AnswerLine)
      → (Clean g new.journal → Decides old.store new.store (written g old.journal) (written g new.journal) key d came) → answer ≡ verdict_answer came
      → DoesDecide (Clean g new.journal) (written g old.journal) old.store key d answer new.store
  decision-does key d came answer decides told =
      (came, (λ now. (written g new.journal, of-now (λ c. Decides old.store new.store c (written g new.journal) key d came) decides now)), told)
