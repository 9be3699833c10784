-- How many outcomes were ever kept in a file, and which of them stay, as a row that is at no key's place.
use Rattle.std.specs.Prelude.{ℕ, ◌<◌, ◌≤◌, ◌^◌, List, [], ◌∷◌, filter, slice_get, option_map, unwrap_or, codes, pos, negsuc}
use Rattle.sqlite_value.specs.declared.value.Value.TheVariants.{Null, Int, Text}
use Rattle.sqlite_value.specs.Order.{Row, column}
use Rattle.sqlite_trees.specs.Objects.{number_in}
use Rattle.sqlite_trees.specs.Tree.{has_rowid}
use Rattle.journal.specs.declared.numbers.Numbers.{Numbers}

-- the columns after that of the replies: the number of the next outcome, of the first that stays, how many of the last stay at least, and how many of the
-- last await the index
abbrev pub next_column : ℕ
next_column = 5

abbrev pub first_column : ℕ
first_column = 6

abbrev pub least_column : ℕ
least_column = 7

abbrev pub awaiting_column : ℕ
awaiting_column = 8

abbrev pub numbers_row : Numbers → Row
numbers_row n = Int (negsuc 0) ∷ Null ∷ Text [] ∷ Text (codes "numbers") ∷ Text [] ∷ Int (pos n.next) ∷ Int (pos n.first) ∷ Int (pos n.least) ∷ Int (pos n.awaiting) ∷ []

-- a row of the formats before 9 ends before the last column: none awaits
abbrev pub numbers_told : Row → Numbers
numbers_told row = record {
  next = number_in (column row next_column);
  first = number_in (column row first_column);
  least = number_in (column row least_column);
  awaiting = number_in (column row awaiting_column);
}

-- where the file doesn't say: none was kept with a number, all stay, the last million do at least, and none awaits
abbrev pub first_numbers : Numbers
first_numbers = record { next = 1; first = 0; least = 1000000; awaiting = 0 }

-- what a table of outcomes says
unfoldable pub numbers_in : List Row → Numbers
numbers_in rows = unwrap_or (option_map numbers_told (slice_get (filter (has_rowid (negsuc 0)) rows) 0)) first_numbers

-- those that a store writes: none stays or awaits that wasn't kept
pub record AreCounted (n : Numbers) : Type 0 where
  pub some : 0 < n.next
  pub within : n.first ≤ n.next
  pub awaits : n.awaiting ≤ n.next
  pub short : n.next < 2 ^ 62
  pub few : n.least < 2 ^ 62
