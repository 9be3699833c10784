-- Which states lists of operations lead to, from the initial one.
use Rattle.std.specs.Prelude.{◌≡◌, ◌↔◌, ℕ, ◌≤◌, Bool, true, false, List, length, Some, slice_get}
use Rattle.type_table.specs.Table.{Table, IsTable}
use Rattle.type_table.specs.Run.{run}
use Rattle.type_table.specs.StateSet.{has}
use Rattle.exact_tables.specs.Tell.{comes_before}
use Rattle.pair_needs.specs.declared.leads.Lead.{Lead}

-- a list leads from the initial state to s
abbrev pub Leads : Table → ℕ → List ℕ → Type 0
Leads T s w = run T (Some T.initial) w ≡ Some s

-- some list does
abbrev pub IsLedTo : Table → ℕ → Type 0
IsLedTo T s = (w : List ℕ) × Leads T s w

-- a list leads to s, none that does is shorter, and none as long that does comes before it
pub record IsLead (T : Table) (s : ℕ) (w : List ℕ) : Type 0 where
  pub leads : Leads T s w
  pub shortest : (v : List ℕ) → Leads T s v → length w ≤ length v
  pub first : (v : List ℕ) → Leads T s v → length v ≡ length w → comes_before v w ≡ false

-- a state, and the list that leads to it
abbrev pub IsLeadOf : Table → Lead → Type 0
IsLeadOf T l = IsLead T l.state l.list.items

-- each of these is one, and each state to which some list leads is among them
pub record AreLeads (T : Table) (leads : List Lead) : Type 0 where
  pub table : IsTable T
  pub each : (i : ℕ) (l : Lead) → slice_get leads i ≡ Some l → IsLeadOf T l
  pub all : (s : ℕ) → IsLedTo T s → (i : ℕ) × (l : Lead) × (slice_get leads i ≡ Some l) × (l.state ≡ s)

-- the set of the states to which some list leads
pub record IsLedSet (T : Table) (led : List Bool) : Type 0 where
  pub whole : length led ≡ T.states
  pub each : (s : ℕ) → (has led s ≡ true) ↔ IsLedTo T s
