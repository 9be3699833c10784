-- Each row of who is prepared is of a transaction that began, after each line.
use Rattle.std.proofs.Common.{◌≡◌, ℕ, ◌<◌, List, ◌++◌, Option, Some, None, Result, Ok, Err, refl, sym, subst}
use Rattle.std.specs.Prelude.{MatchOption, MatchResult}
use Rattle.type_table.proofs.Elements.{each-push}
use Rattle.serial_order.specs.History.{begins, summary}
use Rattle.serial_order.specs.declared.refusal.Refusal.TheVariants.{NotOpen}
use Rattle.serial_order.proofs.Runs.{of_open}
use Rattle.store_laws.specs.Stored.{Stored}
use Rattle.journal.specs.declared.outcome_row.Outcome.TheVariants.{Aborted, Committed}
use Rattle.journal.specs.declared.prepared_row.Prepared.{Prepared}
use Rattle.journal.specs.Contents.{Contents}
use Rattle.durable_store.specs.Votes.{Votes}
use Rattle.durable_store.specs.declared.votes.Vote.{Vote}
use Rattle.durable_store.specs.declared.votes.Vote.TheVariants as vote
use Rattle.request_text.specs.Requests.{asked_by}
use Rattle.request_text.specs.declared.fault.RequestFault.{RequestFault}
use Rattle.request_text.specs.declared.request.Request.{Request}
use Rattle.request_text.specs.declared.request.Request.TheVariants as request
use Rattle.request_text.specs.declared.request.TransactionName.{TransactionName}
use Rattle.serving.specs.declared.answer_line.AnswerLine.{AnswerLine}
use Rattle.serving.specs.declared.answer_line.AnswerLine.TheVariants.{Fault, Refused}
use Rattle.serving.specs.declared.answer_line.Answered.{Answered}
use Rattle.serving.specs.Keys.{said_after}
use Rattle.serving.specs.Names.{KnownNames, number_named}
use Rattle.serving.specs.Prepared.{now_says, prepared_after, prepared_answered, prepared_as, rows_as, vote_answer}
use Rattle.serving.specs.Requests.{DoesRequest}
use Rattle.serving.specs.Served.{IsAnswered}
use Rattle.serving.proofs.Growth.{Grows, answered-grows}
use Rattle.held_votes.proofs.Rows.{HaveBegun, begun-still}

grown-begun : (old new : Stored) (rows : List Prepared) → Grows old new → HaveBegun old.history rows → HaveBegun new.history rows
grown-begun old new rows (more, grown, same) began = subst (λ H. HaveBegun H rows) (sym grown) (begun-still old.history more rows began)

-- a vote is of a transaction that began
vote-begun : (names : KnownNames) (c : Contents) (old : Stored) (t : TransactionName) (key : List ℕ) (until n : ℕ) (came : Vote) (now : Contents) → number_named names t ≡ Some n
    → Votes old (now_says c old) (prepared_as t n key until) came now → HaveBegun old.history c.prepared → HaveBegun old.history (prepared_after names (request.Prepare t key until) (vote_answer came) c.prepared)
vote-begun names c old t key until n vote.Prepared now is did began =
    subst (λ found. HaveBegun old.history (c.prepared ++ rows_as found t key until)) (sym is)
    (each-push (λ (q : Prepared). q.number < begins old.history) c.prepared (prepared_as t n key until) began ((of_open (summary old.history) n did.0).began))
vote-begun names c old t key until n vote.Again now is did began = began
vote-begun names c old t key until n vote.NotOpen now is did began = began
vote-begun names c old t key until n vote.Otherwise now is did began = began
vote-begun names c old t key until n vote.KeyInUse now is did began = began
vote-begun names c old t key until n (vote.Known (Committed replies)) now is did began = began
vote-begun names c old t key until n (vote.Known Aborted) now is did began = began
vote-begun names c old t key until n vote.Taken now is did began = began

request-begun : (most : ℕ) (names : KnownNames) (c : Contents) (ps : List Prepared) (line : List ℕ) (old : Stored) (r : Request) (a : AnswerLine) (new : Stored) → DoesRequest (Unit {0}) most names c ps line old r a new
    → Grows old new → HaveBegun old.history c.prepared → HaveBegun new.history (prepared_after names r a c.prepared)
request-begun most names c ps line old (request.Prepare t key until) a new does grown began =
    subst (λ (s : Stored). HaveBegun s.history (prepared_after names (request.Prepare t key until) a c.prepared)) (sym does.0) (by (number_named names t) refl does.1)
  where
    by : (found : Option ℕ) → number_named names t ≡ found
        → MatchOption found (a ≡ Refused NotOpen) (λ n. (came : Vote) × (Unit {0} → (now : Contents) × Votes old (now_says c old) (prepared_as t n key until) came now) × (a ≡ vote_answer came))
        → HaveBegun old.history (prepared_after names (request.Prepare t key until) a c.prepared)
    by None is told = subst (λ x. HaveBegun old.history (prepared_after names (request.Prepare t key until) x c.prepared)) (sym told) began
    by (Some n) is (came, votes, told) =
        let did = votes tt in
        subst (λ x. HaveBegun old.history (prepared_after names (request.Prepare t key until) x c.prepared)) (sym told) (vote-begun names c old t key until n came did.0 is did.1 began)
request-begun most names c ps line old r a new does grown began = grown-begun old new c.prepared grown began

pub answered-begun : (most : ℕ) (names : KnownNames) (c : Contents) (line : List ℕ) (old : Stored) (a : Answered) (new : Stored) → IsAnswered (Unit {0}) most names c line old a new → HaveBegun old.history c.prepared
    → HaveBegun new.history (said_after names c line a.answer).prepared
answered-begun most names c line old a new answered began =
    let grown = answered-grows (Unit {0}) tt most names c line old a new answered in
    elim (asked_by line).request as (λ (q : Result Request RequestFault). MatchResult q (λ r. DoesRequest (Unit {0}) most names c answered.prepared line old r a.answer new) (λ fault. (a.answer ≡ Fault fault) × (new ≡ old))
    → HaveBegun new.history (prepared_answered names q a.answer c.prepared)) [
      | Ok r ↦ λ does. request-begun most names c answered.prepared line old r a.answer new does grown began
      | Err fault ↦ λ told. grown-begun old new c.prepared grown began
    ] answered.request
