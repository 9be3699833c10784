-- Rows of outcomes that are let go are freed.
use Rattle.std.specs.Prelude.{◌≡◌, ◌⊎◌, ◌+◌, ◌<◌, ℕ, Some, pos}
use Rattle.sqlite_trees.specs.Tree.{without_rowid}
use Rattle.sqlite_trees.specs.View.{SetsTree, View}
use Rattle.journal.specs.declared.place_row.PlaceRow.{PlaceRow}
use Rattle.journal.specs.declared.place_row.PlaceRow.TheVariants.{Pointer, Whole}
use Rattle.journal.specs.OutcomeIndex.{numbered_from, placed}

-- the number that a row at a place says
abbrev pub place_number : PlaceRow → ℕ
place_number (Whole o) = o.number
place_number (Pointer n) = n

-- a row at a place was freed whose number is below this one
pub record FreesPlace (below : ℕ) (old new : View) : Type 0 where
  pub place : ℕ
  pub gone : PlaceRow
  pub there : placed (old.trees 6) place ≡ Some gone
  pub low : place_number gone < below
  pub sets : SetsTree old new 6 (without_rowid (pos place))

-- the row of an outcome was freed whose number is below this one
pub record FreesNumber (below : ℕ) (old new : View) : Type 0 where
  pub number : ℕ
  pub low : number < below
  pub sets : SetsTree old new 6 (without_rowid (pos (numbered_from + number)))

-- or nothing changes
abbrev pub Frees : ℕ → View → View → Type 0
Frees below old new = FreesPlace below old new ⊎ (FreesNumber below old new ⊎ (new ≡ old))
