-- How far the search for the first failure has come: at one pair, and at one requested operation. And pairs by their numbers.
use Rattle.std.specs.Prelude.{◌≡◌, ℕ, ◌<◌, ◌/◌, ◌%◌, Bool, true, false, not, ◌&&◌, List, length}
use Rattle.std.specs.List.{list_any, range_with_len}
use Rattle.type_table.specs.ConflictTable.{conflicts}
use Rattle.type_table.specs.Table.{Table}
use Rattle.declared_types.specs.declared.type_file.TypeFile.{TypeFile}
use Rattle.table_checker.specs.Condition.{fails_in_set, fails_at}
use Rattle.table_checker.specs.declared.condition.Condition.{Condition}

-- the pair fails at no state of the set
abbrev pub PairPasses : Condition → TypeFile → ℕ → ℕ → Type 0
PairPasses condition file p q = (s : ℕ) → s < file.table.states → fails_in_set condition file p q s ≡ false

-- the pair fails at s and at no state before it
pub record IsFirstState (condition : Condition) (file : TypeFile) (p q s : ℕ) : Type 0 where
  pub state : s < file.table.states
  pub fails : fails_in_set condition file p q s ≡ true
  pub first : (r : ℕ) → r < s → fails_in_set condition file p q r ≡ false

-- no held operation fails with p
abbrev pub RowPasses : Condition → TypeFile → List (List Bool) → ℕ → Type 0
RowPasses condition file rows p = (q s : ℕ) → q < length file.table.ops → s < file.table.states → fails_at condition file rows p q s ≡ false

-- p fails with q at s, with q at no state before it, and with no held operation before q
pub record IsFirstHeld (condition : Condition) (file : TypeFile) (rows : List (List Bool)) (p q s : ℕ) : Type 0 where
  pub held : q < length file.table.ops
  pub state : s < file.table.states
  pub fails : fails_at condition file rows p q s ≡ true
  pub first_state : (r : ℕ) → r < s → fails_at condition file rows p q r ≡ false
  pub first_held : (b r : ℕ) → b < q → r < file.table.states → fails_at condition file rows p b r ≡ false

-- ---- pairs by their numbers

-- the requested operation of a number
abbrev pub requested_of : Table → ℕ → ℕ
requested_of T number = number / length T.ops

-- the held operation
abbrev pub held_of : Table → ℕ → ℕ
held_of T number = number % length T.ops

-- the pair of a number is outside the conflict table, and fails at some state of the set
unfoldable pub pair_fails : Condition → TypeFile → List (List Bool) → ℕ → Bool
pair_fails condition file rows number =
    let p = requested_of file.table number in
    let q = held_of file.table number in
    not (conflicts rows p q) && list_any (fails_in_set condition file p q) (range_with_len 0 file.table.states)

-- no number below n passes a test
abbrev pub NoneBelow : (ℕ → Bool) → ℕ → Type 0
NoneBelow test n = (i : ℕ) → i < n → test i ≡ false

-- k is below n and passes, and no number before it does
pub record IsFirstBelow (test : ℕ → Bool) (n k : ℕ) : Type 0 where
  pub below : k < n
  pub passes : test k ≡ true
  pub first : NoneBelow test k
