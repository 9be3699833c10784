-- What an answer changes: where it is a reply, the object, and the row of the transaction.
use Rattle.std.specs.Prelude.{◌≡◌, ℕ, List, set, Option, Some, slice_get}
use Rattle.object_trait.specs.Meaning.{Meaning}
use Rattle.object_trait.specs.Steps.{applied, IsCommit}
use Rattle.object_calls.specs.declared.answer.Answer.{Answer}
use Rattle.object_calls.specs.declared.answer.Answer.TheVariants as answer
use Rattle.open_transactions.specs.Transactions.{Row, pushed, changed}

-- at x there is one entry more, and t has one place more
pub record IsExecuted (t x k : ℕ) (ms now : List Meaning) (rows left : List (Option Row)) : Type 0 where
  pub m : Meaning
  pub there : slice_get ms x ≡ Some m
  pub object : now ≡ set ms x (applied m t k)
  pub row : left ≡ changed rows t (pushed x)

-- at x the operation was executed, and t committed
pub record IsCommittedAt (t x k : ℕ) (ms now : List Meaning) : Type 0 where
  pub m : Meaning
  pub there : slice_get ms x ≡ Some m
  pub after : Meaning
  pub commits : IsCommit (applied m t k) t after
  pub object : now ≡ set ms x after

-- a reply executes its operation, and any other answer changes nothing
abbrev pub ExecutesAnswer : Answer → ℕ → ℕ → List Meaning → List Meaning → List (Option Row) → List (Option Row) → Type 0
ExecutesAnswer (answer.Reply k) t x ms now rows left = IsExecuted t x k ms now rows left
ExecutesAnswer a t x ms now rows left = (now ≡ ms) × (left ≡ rows)
