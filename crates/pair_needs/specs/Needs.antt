-- Why a pair of operations has to be in a conflict table: p is requested, q is held.
use Rattle.std.specs.Prelude.{◌≡◌, ℕ, ◌<◌, Bool, true, ◌==◌}
use Rattle.type_table.specs.Commute.{Commutes, CommutesStrongly}
use Rattle.type_table.specs.Table.{Table}
use Rattle.type_table.specs.declared.table_kind.TableKind.{TableKind}
use Rattle.declared_types.specs.declared.type_file.TypeFile.{TypeFile}
use Rattle.table_checker.specs.Checked.{condition_of}
use Rattle.table_checker.specs.Condition.{fails_in_set}
use Rattle.pair_needs.specs.Leads.{IsLedTo}
use Rattle.pair_needs.specs.declared.need.Need.{Need}
use Rattle.pair_needs.specs.declared.need.Need.TheVariants.{Run, File, Strong, Nothing}

-- the set of one state
abbrev pub only : ℕ → ℕ → Bool
only s r = r == s

-- what the kind needs doesn't hold at s, over all lists of operations
abbrev pub FailsAt : TableKind → Table → ℕ → ℕ → ℕ → Type 0
FailsAt kind T p q s = Commutes kind T (only s) p q → ⊥

-- what the stronger claim on kept states needs doesn't: for update in place the two-way form
abbrev pub FailsStronglyAt : TableKind → Table → ℕ → ℕ → ℕ → Type 0
FailsStronglyAt kind T p q s = CommutesStrongly kind T (only s) p q → ⊥

-- the pair fails at a state to which some list leads. No file has a say in this: it is so by the table alone
abbrev pub FailsInRun : TableKind → Table → ℕ → ℕ → Type 0
FailsInRun kind T p q = (s : ℕ) × IsLedTo T s × FailsAt kind T p q s

-- it fails what the checker tests, at a state of this file's set and by this file's relation
abbrev pub FailsInFile : TableKind → TypeFile → ℕ → ℕ → Type 0
FailsInFile kind file p q = (s : ℕ) × (s < file.table.states) × (fails_in_set (condition_of kind) file p q s ≡ true)

-- it fails the stronger form at a state to which some list leads, over all lists. The file's set and relation have no say here either: a
-- set that is larger or a relation that lacks pairs could only say that more pairs fail, and no run would show those
abbrev pub FailsStronglyInRun : TableKind → Table → ℕ → ℕ → Type 0
FailsStronglyInRun kind T p q = (s : ℕ) × IsLedTo T s × FailsStronglyAt kind T p q s

-- the first of these three that holds, or none
abbrev pub IsNeed : TableKind → TypeFile → ℕ → ℕ → Need → Type 0
IsNeed kind file p q Run = FailsInRun kind file.table p q
IsNeed kind file p q File = (FailsInRun kind file.table p q → ⊥) × FailsInFile kind file p q
IsNeed kind file p q Strong =
    (FailsInRun kind file.table p q → ⊥) × (FailsInFile kind file p q → ⊥) × FailsStronglyInRun kind file.table p q
IsNeed kind file p q Nothing =
    (FailsInRun kind file.table p q → ⊥) × (FailsInFile kind file p q → ⊥) × (FailsStronglyInRun kind file.table p q → ⊥)
