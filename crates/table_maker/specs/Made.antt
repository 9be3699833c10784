-- What a made file is, and when there is none.
use Rattle.std.specs.Prelude.{◌≡◌, ℕ, ◌/◌, ◌%◌, ◌<◌, ◌≤◌, Bool, true, false, List, length, map, if◌then◌else◌, Option, Some, None, Result, Ok, Err, replicate}
use Rattle.std.specs.List.{range_with_len}
use Rattle.type_table.specs.Op.{has_twin}
use Rattle.type_table.specs.Table.{Table, IsTable, next}
use Rattle.type_table.specs.declared.op.Op.{Op}
use Rattle.equi_cert.specs.Relation.{relates}
use Rattle.declared_types.specs.declared.type_file.TypeFile.{TypeFile}
use Rattle.table_checker.specs.declared.condition.Condition.TheVariants.{Forward, Backward}
use Rattle.exact_tables.specs.Exact.{IsExact}
use Rattle.table_maker.specs.MadeConflicts.{AreMadeConflicts}
use Rattle.table_maker.specs.declared.make_error.MakeError.{MakeError}
use Rattle.table_maker.specs.declared.make_error.MakeError.TheVariants.{BadParameter, TooLarge, NoMemory}

-- a next state where an operation is legal, and none where it isn't
abbrev pub where_legal : Bool → ℕ → Option ℕ
where_legal is_legal t = if is_legal then Some t else None

-- an operation
abbrev pub op_named : List ℕ → List ℕ → Op
op_named call reply = record { call = call; reply = reply }

-- a family at its parameters: a name, states, operations, and the step of each operation from each state; the initial state is 0
pub record Family : Type 0 where
  pub name : List ℕ
  pub states : ℕ
  pub ops : List Op
  pub step : ℕ → ℕ → Option ℕ

-- what a family needs to have a table: 1 to 1,024 states, 1 to 64 operations of which none comes twice, and steps that lead to its states
pub record HasTable (f : Family) : Type 0 where
  pub some_states : 0 < f.states
  pub states_fit : f.states ≤ 1024
  pub some_ops : 0 < length f.ops
  pub ops_fit : length f.ops ≤ 64
  pub no_twin : has_twin f.ops ≡ false
  pub steps_inside : (s k t : ℕ) → s < f.states → k < length f.ops → f.step s k ≡ Some t → t < f.states

-- the first entries of a table: that of state s and operation k is at s * (number of operations) + k
abbrev pub table_entries : Family → ℕ → List (Option ℕ)
table_entries f count = map (λ place. f.step (place / length f.ops) (place % length f.ops)) (range_with_len 0 count)

-- the table is the family's
pub record IsTableOfFamily (f : Family) (T : Table) : Type 0 where
  pub name : T.name ≡ f.name
  pub states : T.states ≡ f.states
  pub initial : T.initial ≡ 0
  pub ops : T.ops ≡ f.ops
  pub steps : (s k : ℕ) → s < f.states → k < length f.ops → next T s k ≡ f.step s k

-- the file is what its table and its set make it: a state is related to another exactly where it looks like it, and for each kind exactly
-- the pairs conflict that fail at some state of the set
pub record IsMadeFile (file : TypeFile) : Type 0 where
  pub table : IsTable file.table
  pub relation : IsExact file.table (relates file.relation)
  pub undo : AreMadeConflicts Backward file file.undo
  pub intentions : AreMadeConflicts Forward file file.intentions

-- the file has the family's table and the set of all its states, and is what these make it
pub record IsFileOfFamily (f : Family) (file : TypeFile) : Type 0 where
  pub table : IsTableOfFamily f file.table
  pub reach : file.reach ≡ replicate f.states true
  pub made : IsMadeFile file

-- `BadParameter` exactly where the parameters aren't good, else `TooLarge` exactly where the family has too many states or
-- operations, else the family's file, or refused memory
abbrev pub Makes : Result TypeFile MakeError → Type 0 → Type 0 → Family → Type 0
Makes (Ok file) IsGood Fits f = IsGood × Fits × IsFileOfFamily f file
Makes (Err BadParameter) IsGood Fits f = IsGood → ⊥
Makes (Err TooLarge) IsGood Fits f = IsGood × (Fits → ⊥)
Makes (Err NoMemory) IsGood Fits f = IsGood × Fits
