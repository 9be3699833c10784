-- How low and how high a list of operations leads, at the ends of its fronts: a rollback may leave any front.
use Rattle.std.specs.Prelude.{◌≡◌, ℕ, ◌+◌, ◌≤◌, List, Some, take}
use Rattle.type_table.specs.Table.{Table}
use Rattle.type_table.specs.Run.{run}

-- from s, no front ends further below s than this, and one ends as far below
pub record IsLowest (T : Table) (s : ℕ) (ks : List ℕ) (depth : ℕ) : Type 0 where
  pub no_lower : (count e : ℕ) → run T (Some s) (take count ks) ≡ Some e → s ≤ e + depth
  pub count : ℕ
  pub end : ℕ
  pub leads : run T (Some s) (take count ks) ≡ Some end
  pub lowest : end + depth ≡ s

-- no front ends further above s than this, and one ends as far above
pub record IsHighest (T : Table) (s : ℕ) (ks : List ℕ) (height : ℕ) : Type 0 where
  pub no_higher : (count e : ℕ) → run T (Some s) (take count ks) ≡ Some e → e ≤ s + height
  pub count : ℕ
  pub end : ℕ
  pub leads : run T (Some s) (take count ks) ≡ Some end
  pub highest : end ≡ s + height
