-- What a file knows of transactions that have keys: what became of each, and which are let go.
use Rattle.std.specs.Prelude.{◌≡◌, ◌⊎◌, ◌≤◌, ℕ, ◌+◌, ◌-◌, ◌==◌, Bool, nat_lt, List, Option, Some, None, option_map, if◌then◌else◌}
use Rattle.sqlite_value.specs.Order.{Row}
use Rattle.transaction_key.specs.TransactionKey.{key_place}
use Rattle.journal.specs.declared.numbers.Numbers.{Numbers}
use Rattle.journal.specs.declared.outcome_row.KeptOutcome.{KeptOutcome}
use Rattle.journal.specs.declared.outcome_row.KeyedOutcome.{KeyedOutcome}
use Rattle.journal.specs.Numbers.{numbers_in}
use Rattle.journal.specs.OutcomeIndex.{awaiting_from, kept_from, kept_row}

-- what is kept at each place, and which it was of all that were ever kept, the first of which is 1; the number of the next; and how many of the last stay at least
pub record Outcomes : Type 0 where
  pub at : ℕ → Option KeyedOutcome
  pub numbers : ℕ → ℕ
  pub next : ℕ
  pub least : ℕ

-- where none was ever kept
abbrev pub no_outcomes : Outcomes
no_outcomes = record { at = λ n. None; numbers = λ n. 0; next = 1; least = 1000000 }

-- with this one at its key's place
abbrev pub outcomes_with : Outcomes → KeyedOutcome → Outcomes
outcomes_with all o = record {
  at = λ n. if n == key_place o.key then Some o else all.at n;
  numbers = λ n. if n == key_place o.key then all.next else all.numbers n;
  next = all.next + 1;
  least = all.least;
}

-- where at least so many stay from now on
abbrev pub staying : Outcomes → ℕ → Outcomes
staying all least = record all { least = least }

-- as many were kept since as stay at least
abbrev pub is_let_go : Outcomes → ℕ → Bool
is_let_go all n = nat_lt (all.numbers n) (all.next - all.least)

-- without those since which so many were kept
abbrev pub let_go : Outcomes → Outcomes
let_go all = record all { at = λ n. if is_let_go all n then None else all.at n; numbers = λ n. if is_let_go all n then 0 else all.numbers n }

-- of two moments of a file, what was kept at the first is kept at the second as it was, unless since it was kept as many were as stay at least
pub record StaysKnown (old new : Outcomes) : Type 0 where
  pub least : new.least ≡ old.least
  pub more : old.next ≤ new.next
  pub each : (n : ℕ) (kept : KeyedOutcome) → old.at n ≡ Some kept → ((new.at n ≡ Some kept) × (new.numbers n ≡ old.numbers n)) ⊎ (old.numbers n + old.least ≤ new.next)

-- ---- as a table has them

-- one that stays, where the first that does has this number
abbrev pub staying_from : ℕ → Option KeptOutcome → Option KeptOutcome
staying_from first None = None
staying_from first (Some o) = if nat_lt o.number first then None else Some o

abbrev pub number_kept : Option KeptOutcome → ℕ
number_kept None = 0
number_kept (Some o) = o.number

abbrev pub outcomes_of : Numbers → (ℕ → Option KeptOutcome) → Outcomes
outcomes_of n kept = record {
  at = λ place. option_map (λ (o : KeptOutcome). o.kept) (staying_from n.first (kept place));
  numbers = λ place. number_kept (staying_from n.first (kept place));
  next = n.next;
  least = n.least;
}

-- what rows say of outcomes that have these numbers, also where the row of the numbers doesn't count them all yet
abbrev pub outcomes_by : Numbers → List Row → Outcomes
outcomes_by n rows = outcomes_of n (kept_from rows (awaiting_from n) n.awaiting)

unfoldable pub outcomes_in : List Row → Outcomes
outcomes_in rows = outcomes_of (numbers_in rows) (kept_row rows)
