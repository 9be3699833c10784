-- Which outcome a file keeps at the place of a key. Outcomes are rows in the order of their numbers. An index leads from a place to a number. The last
-- outcomes aren't in it yet: they await it.
use Rattle.std.specs.Prelude.{◌≡◌, ℕ, zero, suc, ◌+◌, ◌-◌, ◌≤◌, ◌^◌, ◌==◌, ◌&&◌, Bool, false, nat_lt, List, filter, slice_get, Option, Some, None, option_map, pos, if◌then◌else◌}
use Rattle.std.specs.Ordering.{nat_cmp}
use Rattle.std.specs.BTreeMap.{get}
use Rattle.sqlite_value.specs.Order.{Row}
use Rattle.sqlite_trees.specs.Tree.{has_rowid}
use Rattle.sqlite_trees.specs.View.{View}
use Rattle.transaction_key.specs.TransactionKey.{key_place}
use Rattle.journal.specs.declared.numbers.Numbers.{Numbers}
use Rattle.journal.specs.declared.outcome_index.OutcomeIndex.{OutcomeIndex}
use Rattle.journal.specs.declared.outcome_row.KeptOutcome.{KeptOutcome}
use Rattle.journal.specs.declared.place_row.PlaceRow.{PlaceRow}
use Rattle.journal.specs.declared.place_row.PlaceRow.TheVariants.{Pointer, Whole}
use Rattle.journal.specs.Numbers.{AreCounted, numbers_in}
use Rattle.journal.specs.OutcomeRow.{outcome_told}
use Rattle.journal.specs.PlaceRow.{place_told}

-- the row with this rowid, where there is one
unfoldable pub row_at : List Row → ℕ → Option Row
row_at rows id = slice_get (filter (has_rowid (pos id)) rows) 0

-- places are below it, and the row of an outcome has the rowid of this and its number
abbrev pub numbered_from : ℕ
numbered_from = 2 ^ 62

abbrev pub numbered_told : ℕ → Row → KeptOutcome
numbered_told n row = record { kept = (outcome_told row).kept; number = n }

-- the outcome with this number
unfoldable pub outcome_numbered : List Row → ℕ → Option KeptOutcome
outcome_numbered rows n = option_map (numbered_told n) (row_at rows (numbered_from + n))

abbrev pub has_key_at : ℕ → Option KeptOutcome → Bool
has_key_at p None = false
has_key_at p (Some o) = key_place o.kept.key == p

-- the outcome with this number is there, and its key has this place
unfoldable pub is_placed : List Row → ℕ → ℕ → Bool
is_placed rows p n = nat_lt p numbered_from && has_key_at p (outcome_numbered rows n)

-- of so many numbers from the first on, the last whose outcome has this place
unfoldable pub last_number : List Row → ℕ → ℕ → ℕ → Option ℕ
last_number rows p first zero = None
last_number rows p first (suc count) = if is_placed rows p (first + count) then Some (first + count) else last_number rows p first count

-- what the row at a place says
unfoldable pub placed : List Row → ℕ → Option PlaceRow
placed rows p = if nat_lt p numbered_from then option_map place_told (row_at rows p) else None

-- where outcomes from this number on await, a pointer leads to an outcome before them that has the place, and nowhere else
abbrev pub led_to : List Row → ℕ → ℕ → Option PlaceRow → Option KeptOutcome
led_to rows awaiting p None = None
led_to rows awaiting p (Some (Whole o)) = Some o
led_to rows awaiting p (Some (Pointer n)) = if nat_lt n awaiting && is_placed rows p n then outcome_numbered rows n else None

-- the last of the outcomes that await has precedence over the index
abbrev pub last_or_led : List Row → ℕ → ℕ → Option ℕ → Option KeptOutcome
last_or_led rows awaiting p None = led_to rows awaiting p (placed rows p)
last_or_led rows awaiting p (Some n) = outcome_numbered rows n

-- what is kept at a place, where so many outcomes from this number on await
unfoldable pub kept_from : List Row → ℕ → ℕ → ℕ → Option KeptOutcome
kept_from rows awaiting count p = last_or_led rows awaiting p (last_number rows p awaiting count)

-- from which number on outcomes await
abbrev pub awaiting_from : Numbers → ℕ
awaiting_from m = m.next - m.awaiting

-- what a file keeps at a place
unfoldable pub kept_row : List Row → ℕ → Option KeptOutcome
kept_row rows p = kept_from rows (awaiting_from (numbers_in rows)) (numbers_in rows).awaiting p

-- what a journal has in memory of the outcomes that await: the last with each place, by two maps, and where the first map doesn't have it, its pointer is put
pub record KnowsPlaces (rows : List Row) (m : Numbers) (index : OutcomeIndex) : Type 0 where
  pub after : awaiting_from m ≤ index.begun
  pub before : index.begun ≤ m.next
  pub fresh : (p : ℕ) → get nat_cmp index.fresh p ≡ last_number rows p index.begun (m.next - index.begun)
  pub due : (p n : ℕ) → get nat_cmp index.due p ≡ Some n → last_number rows p (awaiting_from m) (index.begun - awaiting_from m) ≡ Some n
  pub put : (p n : ℕ) → get nat_cmp index.due p ≡ None → last_number rows p (awaiting_from m) (index.begun - awaiting_from m) ≡ Some n → placed rows p ≡ Some (Pointer n)

-- what a journal has in memory of a file's outcomes: their numbers, which are those of the row where it counts all, and the places of those that await
pub record KnowsOutcomes (rows : List Row) (n : Numbers) (index : OutcomeIndex) : Type 0 where
  pub numbers : index.uncounted ≡ false → n ≡ numbers_in rows
  pub first : n.first ≡ (numbers_in rows).first
  pub counted : AreCounted n
  pub places : KnowsPlaces rows n index

abbrev pub CountsOutcomes : View → Numbers → OutcomeIndex → Type 0
CountsOutcomes v n index = v.is_broken ≡ false → KnowsOutcomes (v.trees 6) n index
