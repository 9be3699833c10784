-- Keys of transactions: what a file knows of each.
use Rattle.std.specs.Prelude.{ℕ, cond, List, Option, Some, None}
use Rattle.std.specs.Str.{bytes_eq}
use Rattle.transaction_key.specs.TransactionKey.{key_place}
use Rattle.journal.specs.declared.outcome_row.KeyedOutcome.{KeyedOutcome}
use Rattle.journal.specs.declared.outcome_row.Outcome.{Outcome}
use Rattle.journal.specs.Contents.{Contents}

-- what is kept at a key's place, where it is of this key
abbrev pub outcome_for : List ℕ → Option KeyedOutcome → Option Outcome
outcome_for key None = None
outcome_for key (Some kept) = cond (bytes_eq kept.key key) (Some kept.outcome) None

-- what became of the transaction that has this key
abbrev pub outcome_under : Contents → List ℕ → Option Outcome
outcome_under c key = outcome_for key (c.outcomes.at (key_place key))
