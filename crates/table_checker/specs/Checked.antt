-- What a yes of the checker is.
use Rattle.std.specs.Prelude.{◌≡◌, ℕ, ◌-◌, ◌<◌, ◌≤◌, Bool, true, nat_lt}
use Rattle.equi_cert.specs.Relation.{relates}
use Rattle.equi_cert.specs.Simulation.{IsSimulation}
use Rattle.type_table.specs.StateSet.{has}
use Rattle.type_table.specs.Table.{Table, IsTable}
use Rattle.type_table.specs.declared.kind.Kind.{Kind}
use Rattle.type_table.specs.declared.kind.Kind.TheVariants.{Undo, Intentions, Escrow}
use Rattle.type_table.specs.declared.table_kind.TableKind.{TableKind}
use Rattle.type_table.specs.declared.table_kind.TableKind.TheVariants as tabled
use Rattle.escrow_laws.specs.Bounds.{AreBounds, bounds_of}
use Rattle.declared_types.specs.TypeFile.{conflicts_of}
use Rattle.declared_types.specs.declared.type_file.TypeFile.{TypeFile}
use Rattle.table_checker.specs.Condition.{PassesEverywhere}
use Rattle.table_checker.specs.Reach.{NeverLeaves}
use Rattle.table_checker.specs.declared.condition.Condition.{Condition}
use Rattle.table_checker.specs.declared.condition.Condition.TheVariants.{Forward, Backward, BackwardBothWays}

-- a file, and the kind of recovery for which it was accepted
pub record Checked : Type 0 where
  pub kind : Kind
  pub file : TypeFile

-- what a kind with a conflict table asks of a pair
abbrev pub condition_of : TableKind → Condition
condition_of tabled.Undo = Backward
condition_of tabled.Intentions = Forward

-- what a strong yes asks of it
abbrev pub strong_condition_of : TableKind → Condition
strong_condition_of tabled.Undo = BackwardBothWays
strong_condition_of tabled.Intentions = Forward

-- the set holds the initial state and is left by no step, and the relation is a simulation
pub record IsCertified (file : TypeFile) : Type 0 where
  pub begins_inside : has file.reach file.table.initial ≡ true
  pub never_leaves : NeverLeaves file.table file.reach
  pub simulation : IsSimulation file.table (relates file.relation)

-- what is tested for a kind with a conflict table
pub record IsCommuting (kind : TableKind) (file : TypeFile) : Type 0 where
  pub table : IsTable file.table
  pub certified : IsCertified file
  pub passes : PassesEverywhere (condition_of kind) file (conflicts_of kind file)

-- and for escrow: that each operation moves all states as far, and is legal in each between two in which it is. Of states there may be as
-- many as a word of 32 bits has values
pub record IsNumericType (T : Table) : Type 0 where
  pub states_fit : T.states ≤ 4294967296
  pub initial_inside : T.initial < T.states
  pub bounds : AreBounds T (T.states - 1) (bounds_of T)

-- the states that are looked at: with a conflict table those of the file's set, for escrow all
abbrev pub set_by : Kind → TypeFile → ℕ → Bool
set_by Undo file s = has file.reach s
set_by Intentions file s = has file.reach s
set_by Escrow file s = nat_lt s file.table.states

-- what the checker tested
abbrev pub IsCheckedBy : Kind → TypeFile → Type 0
IsCheckedBy Undo file = IsCommuting tabled.Undo file
IsCheckedBy Intentions file = IsCommuting tabled.Intentions file
IsCheckedBy Escrow file = IsNumericType file.table

abbrev pub IsChecked : Checked → Type 0
IsChecked c = IsCheckedBy c.kind c.file

-- the stronger condition holds too; of escrow there is no weaker one
abbrev pub IsStrongBy : Kind → TypeFile → Type 0
IsStrongBy Undo file = PassesEverywhere (strong_condition_of tabled.Undo) file file.undo
IsStrongBy Intentions file = PassesEverywhere (strong_condition_of tabled.Intentions) file file.intentions
IsStrongBy Escrow file = Unit {0}

abbrev pub IsStrong : Checked → Type 0
IsStrong c = IsStrongBy c.kind c.file
