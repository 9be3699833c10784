-- What became of transactions that have keys, as rows: each at the rowid of its number, in files of the formats 6 to 8 at the place of its key.
use Rattle.std.specs.Prelude.{◌≡◌, ℕ, zero, suc, List, [], ◌∷◌, codes, pos, refl, if◌then◌else◌}
use Rattle.std.specs.Str.{bytes_eq}
use Rattle.sqlite_value.specs.declared.value.Value.TheVariants.{Null, Int, Text}
use Rattle.sqlite_value.specs.Order.{Row, bytes, column}
use Rattle.sqlite_trees.specs.Objects.{number_in}
use Rattle.journal.specs.declared.outcome_row.KeptOutcome.{KeptOutcome}
use Rattle.journal.specs.declared.outcome_row.Outcome.{Outcome}
use Rattle.journal.specs.declared.outcome_row.Outcome.TheVariants.{Committed, Aborted}

-- the columns after that of the position
abbrev pub key_column : ℕ
key_column = 2

abbrev pub how_column : ℕ
how_column = 3

abbrev pub replies_column : ℕ
replies_column = 4

abbrev pub number_column : ℕ
number_column = 5

abbrev pub outcome_word : Outcome → List ℕ
outcome_word (Committed replies) = codes "committed"
outcome_word Aborted = codes "aborted"

-- the words of the replies that were given
abbrev pub outcome_replies : Outcome → List ℕ
outcome_replies (Committed replies) = replies
outcome_replies Aborted = []

-- the column of the number; with the number 0 the row ends before it, as in the formats 6 and 7, which number no outcome
abbrev pub number_columns : ℕ → Row
number_columns zero = []
number_columns (suc n) = Int (pos (suc n)) ∷ []

abbrev pub outcome_row : ℕ → KeptOutcome → Row
outcome_row n o = Int (pos n) ∷ Null ∷ Text o.kept.key ∷ Text (outcome_word o.kept.outcome) ∷ Text (outcome_replies o.kept.outcome) ∷ number_columns o.number

-- the outcome of a word
abbrev pub outcome_said : List ℕ → List ℕ → Outcome
outcome_said word replies = if bytes_eq word (codes "committed") then Committed replies else Aborted

abbrev pub outcome_told : Row → KeptOutcome
outcome_told row = record {
  kept = record { key = bytes (column row key_column); outcome = outcome_said (bytes (column row how_column)) (bytes (column row replies_column)) };
  number = number_in (column row number_column);
}

pub outcome_read_back : (n : ℕ) (o : KeptOutcome) → outcome_told (outcome_row n o) ≡ o
outcome_read_back n o = same o.kept.outcome o.number
  where
    said : (key : List ℕ) (outcome : Outcome) (number : ℕ) → KeptOutcome
    said key outcome number = record { kept = record { key = key; outcome = outcome }; number = number }

    same : (outcome : Outcome) (number : ℕ) → outcome_told (outcome_row n (said o.kept.key outcome number)) ≡ said o.kept.key outcome number
    same (Committed replies) zero = refl
    same (Committed replies) (suc m) = refl
    same Aborted zero = refl
    same Aborted (suc m) = refl
