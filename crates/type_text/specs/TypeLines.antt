-- The grammar of type files, and what its lines say together.
use Rattle.std.specs.Prelude.{◌≡◌, ℕ, ◌<◌, ◌≤◌, Bool, true, false, not, ◌&&◌, List, [], ◌∷◌, length, take, nat_lt, nat_le, ◌==◌, if◌then◌else◌, count_by, slice_get, Option, Some, None, Result, Ok, Err, Contains, codes}
use Rattle.type_table.specs.Limits.{most_states, most_ops}
use Rattle.std.specs.List.{filter_map, list_any}
use Rattle.type_table.specs.Op.{is_same_op}
use Rattle.type_table.specs.declared.table_kind.TableKind.{TableKind}
use Rattle.type_table.specs.declared.table_kind.TableKind.TheVariants.{Undo, Intentions}
use Rattle.type_table.specs.declared.op.Op.{Op}
use Rattle.line_text.specs.Rules.{Rules}
use Rattle.line_text.specs.Shapes.{◌>>=◌, exactly, name_at, number_at, table_kind_at, is_key}
use Rattle.line_text.specs.declared.fault.FaultKind.{FaultKind}
use Rattle.line_text.specs.declared.fault.FaultKind.TheVariants.{UnknownWord, TwiceOp}
use Rattle.line_text.specs.declared.section.Section.{Section}
use Rattle.type_text.specs.declared.type_line.TypeLine.{TypeLine}
use Rattle.type_text.specs.declared.type_line.TypeLine.TheVariants.{TypeName, States, Initial, Operation, Step, Reach, Equi, Conflict, End}

-- ---- what a line says

unfoldable pub type_name_of : List (List ℕ) → Result TypeLine FaultKind
type_name_of words = do
  done ← exactly words 2
  name ← name_at words 1
  Ok (TypeName name)

unfoldable pub states_of_words : List (List ℕ) → Result TypeLine FaultKind
states_of_words words = do
  done ← exactly words 2
  states ← number_at words 1
  Ok (States states)

unfoldable pub initial_of_words : List (List ℕ) → Result TypeLine FaultKind
initial_of_words words = do
  done ← exactly words 2
  s ← number_at words 1
  Ok (Initial s)

unfoldable pub operation_of : List (List ℕ) → Result TypeLine FaultKind
operation_of words = do
  done ← exactly words 3
  call ← name_at words 1
  reply ← name_at words 2
  Ok (Operation (record { call = call; reply = reply }))

unfoldable pub step_of : List (List ℕ) → Result TypeLine FaultKind
step_of words = do
  done ← exactly words 4
  s ← number_at words 1
  k ← number_at words 2
  t ← number_at words 3
  Ok (Step s k t)

unfoldable pub reach_of_words : List (List ℕ) → Result TypeLine FaultKind
reach_of_words words = do
  done ← exactly words 2
  s ← number_at words 1
  Ok (Reach s)

unfoldable pub equi_of : List (List ℕ) → Result TypeLine FaultKind
equi_of words = do
  done ← exactly words 3
  s ← number_at words 1
  t ← number_at words 2
  Ok (Equi s t)

unfoldable pub conflict_of : List (List ℕ) → Result TypeLine FaultKind
conflict_of words = do
  done ← exactly words 4
  kind ← table_kind_at words 1
  p ← number_at words 2
  q ← number_at words 3
  Ok (Conflict kind p q)

unfoldable pub end_of : List (List ℕ) → Result TypeLine FaultKind
end_of words = do
  done ← exactly words 1
  Ok End

-- by the keyword
unfoldable pub line_of : List (List ℕ) → Result TypeLine FaultKind
line_of words =
    if is_key words (codes "type") then type_name_of words
    else (if is_key words (codes "states") then states_of_words words
    else (if is_key words (codes "initial") then initial_of_words words
    else (if is_key words (codes "op") then operation_of words
    else (if is_key words (codes "step") then step_of words
    else (if is_key words (codes "reach") then reach_of_words words
    else (if is_key words (codes "equi") then equi_of words
    else (if is_key words (codes "conflict") then conflict_of words
    else (if is_key words (codes "end") then end_of words
    else Err UnknownWord))))))))

-- ---- the sections

-- their ranks
abbrev pub type_rank : ℕ
type_rank = 0

abbrev pub states_rank : ℕ
states_rank = 1

abbrev pub initial_rank : ℕ
initial_rank = 2

abbrev pub op_rank : ℕ
op_rank = 3

abbrev pub step_rank : ℕ
step_rank = 4

abbrev pub reach_rank : ℕ
reach_rank = 5

abbrev pub equi_rank : ℕ
equi_rank = 6

abbrev pub end_rank : ℕ
end_rank = 9

abbrev pub conflict_rank : TableKind → ℕ
conflict_rank Undo = 7
conflict_rank Intentions = 8

-- the rank of the section of a line
abbrev pub rank_of : TypeLine → ℕ
rank_of (TypeName name) = type_rank
rank_of (States states) = states_rank
rank_of (Initial s) = initial_rank
rank_of (Operation op) = op_rank
rank_of (Step s k t) = step_rank
rank_of (Reach s) = reach_rank
rank_of (Equi s t) = equi_rank
rank_of (Conflict kind p q) = conflict_rank kind
rank_of End = end_rank

-- a section that is one line
abbrev pub one_line : Section
one_line = record { is_single = true; is_needed = true; most = None }

-- a section of any number of lines
abbrev pub any_lines : Section
any_lines = record { is_single = false; is_needed = false; most = None }

-- the `op` lines: 1 to 64
abbrev pub op_lines : Section
op_lines = record { is_single = false; is_needed = true; most = Some most_ops }

abbrev pub sections : List Section
sections = one_line ∷ one_line ∷ one_line ∷ op_lines ∷ any_lines ∷ any_lines ∷ any_lines ∷ any_lines ∷ any_lines ∷ one_line ∷ []

-- ---- what the lines say together

-- the number of states, which the second line says
abbrev pub states_in : Option TypeLine → ℕ
states_in (Some (States states)) = states
states_in _ = 0

abbrev pub states_of : List TypeLine → ℕ
states_of lines = states_in (slice_get lines 1)

abbrev pub op_in : TypeLine → Option Op
op_in (Operation op) = Some op
op_in _ = None

-- the operations, numbered in the order of their lines
abbrev pub ops_of : List TypeLine → List Op
ops_of lines = filter_map op_in lines

-- how many lines are `op` lines
abbrev pub op_count : List TypeLine → ℕ
op_count lines = count_by (λ x. rank_of x == op_rank) lines

-- ---- the tests of a line after others

abbrev pub is_in_range : List TypeLine → TypeLine → Bool
is_in_range before (States states) = nat_le 1 states && nat_le states most_states
is_in_range before (Initial s) = nat_lt s (states_of before)
is_in_range before (Step s k t) = nat_lt s (states_of before) && nat_lt k (op_count before) && nat_lt t (states_of before)
is_in_range before (Reach s) = nat_lt s (states_of before)
is_in_range before (Equi s t) = nat_lt s (states_of before) && nat_lt t (states_of before) && not (s == t)
is_in_range before (Conflict kind p q) = nat_lt p (op_count before) && nat_lt q (op_count before)
is_in_range before _ = true

-- `step` lines ascend by state and operation, `reach` lines by the state, `equi` and `conflict` lines by the pair
abbrev pub key_of : TypeLine → Option (ℕ × ℕ)
key_of (Step s k t) = Some (s, k)
key_of (Reach s) = Some (s, 0)
key_of (Equi s t) = Some (s, t)
key_of (Conflict kind p q) = Some (p, q)
key_of _ = None

-- two `op` lines of one operation
abbrev pub is_twin : TypeLine → TypeLine → Bool
is_twin (Operation op) (Operation other) = is_same_op op other
is_twin _ _ = false

abbrev pub type_rules : Rules TypeLine
type_rules = record {
  item_of = line_of;
  rank_of = rank_of;
  sections = sections;
  misses = λ before x. false;
  is_in_range = is_in_range;
  key_of = key_of;
  is_twin = is_twin;
  twin_fault = λ x. TwiceOp;
}

-- ---- lines that describe a file

-- what is known of the lines of an accepted text
pub record AreTypeLines (lines : List TypeLine) : Type 0 where
  pub name : (name : List ℕ) × (slice_get lines 0 ≡ Some (TypeName name))
  pub states : (states : ℕ) × (slice_get lines 1 ≡ Some (States states)) × (1 ≤ states) × (states ≤ most_states)
  pub initial : (s : ℕ) × (slice_get lines 2 ≡ Some (Initial s)) × (s < states_of lines)
  pub some_op : 0 < length (ops_of lines)
  pub ops_fit : length (ops_of lines) ≤ most_ops
  pub ops_differ : (i : ℕ) (op : Op) → slice_get lines i ≡ Some (Operation op) → list_any (is_same_op op) (ops_of (take i lines)) ≡ false
  pub steps_inside : (s k t : ℕ) → Contains lines (Step s k t) → (s < states_of lines) × (k < length (ops_of lines)) × (t < states_of lines)
  pub steps_once : (s k t u : ℕ) → Contains lines (Step s k t) → Contains lines (Step s k u) → t ≡ u
  pub reach_inside : (s : ℕ) → Contains lines (Reach s) → s < states_of lines
  pub equi_inside : (s t : ℕ) → Contains lines (Equi s t) → (s < states_of lines) × (t < states_of lines)
  pub conflicts_inside : (kind : TableKind) (p q : ℕ) → Contains lines (Conflict kind p q) → (p < length (ops_of lines)) × (q < length (ops_of lines))
