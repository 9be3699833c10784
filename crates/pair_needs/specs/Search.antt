-- How far the search for the states to which lists lead has come.
use Rattle.std.specs.Prelude.{◌≡◌, ◌⊎◌, ◌↔◌, ℕ, ◌<◌, ◌++◌, true, List, [], ◌∷◌, length, Some, slice_get}
use Rattle.type_table.specs.StateSet.{has}
use Rattle.type_table.specs.Table.{Table, IsTable, next}
use Rattle.exact_tables.specs.Tell.{comes_before}
use Rattle.pair_needs.specs.Leads.{Leads as LeadsTo}
use Rattle.pair_needs.specs.declared.leads.Lead.{Lead}
use Rattle.pair_needs.specs.declared.leads.Leads.{Leads}

-- a list is found before another: it is shorter, or as long and first in ascending order
abbrev pub IsSooner : List ℕ → List ℕ → Type 0
IsSooner v w = (length v < length w) ⊎ ((length v ≡ length w) × (comes_before v w ≡ true))

-- it is found before it, or is it
abbrev pub IsNoLater : List ℕ → List ℕ → Type 0
IsNoLater v w = (v ≡ w) ⊎ IsSooner v w

-- the state is among those that were found
abbrev pub IsIn : List Lead → ℕ → Type 0
IsIn found s = (b : ℕ) × (l : Lead) × (slice_get found b ≡ Some l) × (l.state ≡ s)

-- all operations were looked at from each place before i, and those below k from i
abbrev pub IsDone : ℕ → ℕ → ℕ → ℕ → Type 0
IsDone i k a j = (a < i) ⊎ ((a ≡ i) × (j < k))

-- a list is empty, or goes on from one that was found, by an operation that was looked at
pub record GoesOn (found : List Lead) (i k : ℕ) (w : List ℕ) : Type 0 where
  pub place : ℕ
  pub op : ℕ
  pub from : Lead
  pub there : slice_get found place ≡ Some from
  pub done : IsDone i k place op
  pub by : w ≡ from.list.items ++ op ∷ []

-- the lists lead to their states, each is the first that does, and they are in order; from each place that was looked at all next states
-- were found, and no list that doesn't begin there
pub record AreFound (T : Table) (found : List Lead) (i k : ℕ) : Type 0 where
  pub begun : (l : Lead) × (slice_get found 0 ≡ Some l) × (l.state ≡ T.initial)
  pub inside : (b : ℕ) (l : Lead) → slice_get found b ≡ Some l → l.state < T.states
  pub leads : (b : ℕ) (l : Lead) → slice_get found b ≡ Some l → LeadsTo T l.state l.list.items
  pub first : (b : ℕ) (l : Lead) (v : List ℕ) → slice_get found b ≡ Some l → LeadsTo T l.state v → IsNoLater l.list.items v
  pub sorted : (a b : ℕ) (l m : Lead) → a < b → slice_get found a ≡ Some l → slice_get found b ≡ Some m → IsSooner l.list.items m.list.items
  pub followed : (a j t : ℕ) (l : Lead) → slice_get found a ≡ Some l → IsDone i k a j → next T l.state j ≡ Some t → IsIn found t
  pub bound : (b : ℕ) (l : Lead) → slice_get found b ≡ Some l → (l.list.items ≡ []) ⊎ GoesOn found i k l.list.items

-- and the set has the states that were found
pub record IsSearched (T : Table) (i k : ℕ) (l : Leads) : Type 0 where
  pub table : IsTable T
  pub so_far : AreFound T l.found.items i k
  pub whole : length l.set ≡ T.states
  pub same : (s : ℕ) → (has l.set s ≡ true) ↔ IsIn l.found.items s
