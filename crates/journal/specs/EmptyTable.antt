-- Tables are made anew, with no row, and nothing else changes.
use Rattle.std.specs.Prelude.{◌≡◌, ◌≢◌, ◌⊎◌, ◌<◌, ℕ, List, false, [], ◌∷◌, IsTrue, codes}
use Rattle.sqlite_value.specs.declared.value.Value.TheVariants.{Text}
use Rattle.sqlite_value.specs.Order.{Row}
use Rattle.sqlite_trees.specs.declared.store.Shape.TheVariants.{Table}
use Rattle.sqlite_trees.specs.Objects.{catalog_tree, listing}
use Rattle.sqlite_trees.specs.View.{View}
use Rattle.journal.specs.Journal.{HasTables, IsNamedOnce}

-- what is asked of the trees
pub record MayEmpty (v : View) : Type 0 where
  pub tables : HasTables v
  pub numbered : IsTrue v.is_numbered
  pub named : v.is_broken ≡ false → IsNamedOnce (v.trees catalog_tree)

pub record Empties (old new : View) (table : ℕ) : Type 0 where
  pub sound : old.is_broken ≡ false
  pub rows : new.trees table ≡ []
  pub others : (t : ℕ) → t ≢ table → t < 7 → new.trees t ≡ old.trees t
  pub tables : HasTables new
  pub numbered : IsTrue new.is_numbered
  pub named : IsNamedOnce (new.trees catalog_tree)
  pub committed : new.committed ≡ old.committed
  pub is_open : new.is_open ≡ old.is_open
  pub is_broken : new.is_broken ≡ old.is_broken

-- the row of a table in the list of a file's objects: its number, name and statement, and which of its columns are REAL
abbrev pub table_row : ℕ → List ℕ → List ℕ → ℕ → Row
table_row table name sql reals = listing table (Text (codes "table") ∷ Text name ∷ Text name ∷ Text sql ∷ []) Table reals

-- tables that get columns: that of objects gets names, and that of outcomes numbers
abbrev pub IsListedAnew : ℕ → List ℕ → Type 0
IsListedAnew table name = ((table ≡ 3) × (name ≡ codes "object")) ⊎ ((table ≡ 6) × (name ≡ codes "outcome"))

-- a table is listed otherwise, and all rows stay
pub record ListsAnew (old new : View) : Type 0 where
  pub sound : old.is_broken ≡ false
  pub rows : (t : ℕ) → t < 7 → new.trees t ≡ old.trees t
  pub tables : HasTables new
  pub numbered : IsTrue new.is_numbered
  pub named : IsNamedOnce (new.trees catalog_tree)
  pub committed : new.committed ≡ old.committed
  pub is_open : new.is_open ≡ old.is_open
  pub is_broken : new.is_broken ≡ old.is_broken

-- those of what an epoch has: of events, and of prepared transactions
pub record EmptiesEpoch (old new : View) : Type 0 where
  pub sound : old.is_broken ≡ false
  pub events : new.trees 0 ≡ []
  pub prepared : new.trees 5 ≡ []
  pub others : (t : ℕ) → t ≢ 0 → t ≢ 5 → t < 7 → new.trees t ≡ old.trees t
  pub tables : HasTables new
  pub numbered : IsTrue new.is_numbered
  pub named : IsNamedOnce (new.trees catalog_tree)
  pub committed : new.committed ≡ old.committed
  pub is_open : new.is_open ≡ old.is_open
