-- What is read of a type.
use Rattle.std.specs.Prelude.{◌≡◌, ℕ, ◌<◌, ◌≤◌, nat_lt, if◌then◌else◌, List, ◌++◌, length, drop, true, false, Option, Some, None, option_map, slice_get}
use Rattle.type_table.specs.ConflictTable.{conflicts}
use Rattle.type_table.specs.Table.{Table, has_op, next, op_of}
use Rattle.type_table.specs.declared.op.Op.{Op}
use Rattle.object_trait.specs.Object.{conflicts_by}
use Rattle.table_checker.specs.Checked.{Checked}
use Rattle.declared_types.specs.Declarations.{rows_of, table_of}
use Rattle.declared_types.specs.declared.declared_type.Declaration.{Declaration}
use Rattle.library_calls.specs.Codes.{number}
use Rattle.library_calls.specs.Operations.{IsDeclaredBy}
use Rattle.library_calls.specs.declared.code.Code.TheVariants.{Done, NoState, NoOperation, NotLegal, NoRoom}

-- ---- names

-- a name is put at the front of a room, and how many bytes it has is given; or the room is too small
pub data IsPut (name old : List ℕ) (n : ℕ) (new : List ℕ) (count : ℕ) : Type 0 where
  put : n ≡ number Done → length name ≤ length old → new ≡ name ++ drop (length name) old → count ≡ length name → IsPut name old n new count
  small : n ≡ number NoRoom → length old < length name → IsPut name old n new count

-- and so of a name of an operation, which may not be there
abbrev pub IsFoundPut : Option (List ℕ) → List ℕ → ℕ → List ℕ → ℕ → Type 0
IsFoundPut None old n new count = n ≡ number NoOperation
IsFoundPut (Some name) old n new count = IsPut name old n new count

-- the names of the operation with a number, where the type has it: at a place that the type lists those of its line
abbrev pub names_at : Declaration → ℕ → Option Op
names_at declaration k = if nat_lt k (length (rows_of declaration)) then slice_get (rows_of declaration) k else op_of (table_of declaration) k

abbrev pub call_name_of : Declaration → ℕ → Option (List ℕ)
call_name_of declaration k = option_map (λ (o : Op). o.call) (names_at declaration k)

abbrev pub reply_name_of : Declaration → ℕ → Option (List ℕ)
reply_name_of declaration k = option_map (λ (o : Op). o.reply) (names_at declaration k)

-- ---- states

-- the state to which an operation leads
pub data IsStep (T : Table) (s k n to : ℕ) : Type 0 where
  no_state : n ≡ number NoState → T.states ≤ s → IsStep T s k n to
  no_operation : n ≡ number NoOperation → s < T.states → has_op T k ≡ false → IsStep T s k n to
  stuck : n ≡ number NotLegal → s < T.states → has_op T k ≡ true → next T s k ≡ None → IsStep T s k n to
  leads : n ≡ number Done → s < T.states → has_op T k ≡ true → next T s k ≡ Some to → IsStep T s k n to

-- ---- conflicts

-- whether p, requested, conflicts with q, held, as 1 or 0, where the type lists both, which are so many
pub data IsConflict (c : Checked) (ops p q n told : ℕ) : Type 0 where
  no_requested : n ≡ number NoOperation → ops ≤ p → IsConflict c ops p q n told
  no_held : n ≡ number NoOperation → p < ops → ops ≤ q → IsConflict c ops p q n told
  conflicting : n ≡ number Done → p < ops → q < ops → conflicts (conflicts_by c.kind c.file) p q ≡ true → told ≡ 1 → IsConflict c ops p q n told
  apart : n ≡ number Done → p < ops → q < ops → conflicts (conflicts_by c.kind c.file) p q ≡ false → told ≡ 0 → IsConflict c ops p q n told

abbrev pub TellsConflictOf : Checked → ℕ → ℕ → ℕ → ℕ → Type 0
TellsConflictOf c p q n told = (declaration : Declaration) × IsDeclaredBy c declaration × IsConflict c (length (rows_of declaration)) p q n told
