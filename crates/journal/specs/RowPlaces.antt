-- Which rows have the events from one place to another, by where the events of each row begin.
use Rattle.std.specs.Prelude.{◌≡◌, ℕ, ◌+◌, ◌<◌, ◌≤◌, ◌⊎◌, List, length, get_or}
use Rattle.journal.specs.declared.row_places.RowPlaces.{RowPlaces}

-- the first of them begins at the first of these events or before it, and the row behind them at the end of these events or behind it
pub record HaveEvents (starts : List ℕ) (from count : ℕ) (rows : RowPlaces) : Type 0 where
  pub there : rows.first < length starts
  pub start : rows.start ≡ get_or starts rows.first 0
  pub before : rows.start ≤ from
  pub past : rows.first + rows.count < length starts → from + count ≤ get_or starts (rows.first + rows.count) 0

-- none is asked for, or there is no row, or the first one begins behind the first of these events
abbrev pub AreBefore : List ℕ → ℕ → ℕ → Type 0
AreBefore starts from count = (count ≡ 0) ⊎ ((length starts ≡ 0) ⊎ (from < get_or starts 0 0))
