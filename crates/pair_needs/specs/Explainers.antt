-- What is known of a file before its pairs are looked at.
use Rattle.std.specs.Prelude.{◌≡◌, ℕ, Bool, true, not, ◌&&◌, List, length, Option, None, Some}
use Rattle.std.specs.List.{list_any}
use Rattle.type_table.specs.StateSet.{has}
use Rattle.declared_types.specs.declared.type_file.TypeFile.{TypeFile}
use Rattle.exact_tables.specs.Distances.{AreDistances}
use Rattle.pair_needs.specs.Leads.{AreLeads, IsLedSet}
use Rattle.pair_needs.specs.declared.explainer.Explainer.{Explainer}

-- the states of a set that aren't of another
pub record IsDifference (first second set : List Bool) : Type 0 where
  pub whole : length set ≡ length first
  pub some : list_any (λ member. member) set ≡ true
  pub each : (s : ℕ) → has set s ≡ (has first s && not (has second s))

-- there are none
abbrev pub IsWithin : List Bool → List Bool → Type 0
IsWithin first second = (s : ℕ) → has first s ≡ true → has second s ≡ true

-- the same file with the set of these
pub record IsOutsideOf (file : TypeFile) (led : List Bool) (other : TypeFile) : Type 0 where
  pub table : other.table ≡ file.table
  pub relation : other.relation ≡ file.relation
  pub set : (s : ℕ) → has other.reach s ≡ (has file.reach s && not (has led s))

abbrev pub IsOutside : TypeFile → List Bool → Option TypeFile → Type 0
IsOutside file led None = IsWithin file.reach led
IsOutside file led (Some other) = IsOutsideOf file led other

-- how far states are from each other, the lists that lead to them, and the states of the set to which none does
pub record IsExplainer (file : TypeFile) (x : Explainer) : Type 0 where
  pub distances : AreDistances file.table x.distances
  pub leads : AreLeads file.table x.leads.found.items
  pub led : IsLedSet file.table x.leads.set
  pub outside : IsOutside file x.leads.set x.outside
