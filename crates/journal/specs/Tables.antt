-- What reading and writing a table does to what a store shows.
use Rattle.std.specs.Prelude.{◌≢◌, ℕ, List, ◌++◌, length, ◌≡◌, false, IsTrue}
use Rattle.sqlite_value.specs.Order.{Row}
use Rattle.sqlite_trees.specs.View.{View}
use Rattle.journal.specs.Rows.{value_rows}

-- it shows the last commit
pub record IsUnused (v : View) : Type 0 where
  pub is_open : IsTrue v.is_open
  pub sound : v.is_broken ≡ false
  pub clean : v.trees ≡ v.committed

-- only cursors differ
abbrev pub OnlyReads : View → View → Type 0
OnlyReads old new = new ≡ record old { cursors = new.cursors }

-- a table has these rows, and nothing else changes that lasts
pub record Rewrites (old new : View) (table : ℕ) (all : List Row) : Type 0 where
  pub rows_are : new.trees table ≡ all
  pub others : (t : ℕ) → t ≢ table → new.trees t ≡ old.trees t
  pub shape : new.shape ≡ old.shape
  pub committed : new.committed ≡ old.committed
  pub is_open : new.is_open ≡ old.is_open
  pub is_broken : new.is_broken ≡ old.is_broken
  pub numbered : new.is_numbered ≡ old.is_numbered

-- where a table had as many values as that, it has these more behind them, and nothing else changes that lasts
abbrev pub AreBehind : {E : Type 0} → (ℕ → E → Row) → View → View → ℕ → ℕ → List E → Type 0
AreBehind {E} row_at old new table many more =
    (was : List E) → old.trees table ≡ value_rows row_at 0 was → length was ≡ many → Rewrites old new table (value_rows row_at 0 (was ++ more))
