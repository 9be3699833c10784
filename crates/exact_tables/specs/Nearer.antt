-- Operations that lead two states to such as are nearer.
use Rattle.std.specs.Prelude.{◌≡◌, ℕ, ◌+◌, ◌<◌, Some}
use Rattle.type_table.specs.Table.{Table, next}
use Rattle.exact_tables.specs.Distances.{Cells, distance_to}
use Rattle.exact_tables.specs.declared.telling.Step.{Step}

-- k leads s and t, which are so far apart, to such as are nearer by one
pub record LeadsNearer (T : Table) (d : Cells) (far s t k : ℕ) : Type 0 where
  pub after : ℕ
  pub near : ℕ
  pub step : next T s k ≡ Some after
  pub is_near : distance_to d after (next T t k) ≡ Some near
  pub by_one : far ≡ near + 1

-- the step of an operation that does
pub record IsNearer (T : Table) (d : Cells) (far s t : ℕ) (step : Step) : Type 0 where
  pub near : ℕ
  pub first : next T s step.op ≡ Some step.first
  pub second : next T t step.op ≡ step.second
  pub is_near : distance_to d step.first step.second ≡ Some near
  pub by_one : far ≡ near + 1

-- and of the first one that does
pub record IsFirstNearer (T : Table) (d : Cells) (far s t : ℕ) (step : Step) : Type 0 where
  pub nearer : IsNearer T d far s t step
  pub least : (j : ℕ) → j < step.op → LeadsNearer T d far s t j → ⊥
