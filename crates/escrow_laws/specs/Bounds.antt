-- Operations with bounds, types of numbers whose operations these are, and the bounds of the operations of a table.
use Rattle.std.specs.Prelude.{◌≡◌, ℕ, ◌+◌, ◌-◌, ◌*◌, ◌/◌, ◌%◌, ◌≤◌, ◌⊎◌, nat_le, map, length, ◌&&◌, List, Option, Some, None, slice_get, if◌then◌else◌, is_some}
use Rattle.std.specs.List.{range_with_len}
use Rattle.std.specs.Option.{unwrap_or}
use Rattle.type_table.specs.Least.{first_below, last_below}
use Rattle.type_table.specs.Table.{Table, next}
use Rattle.escrow_laws.specs.Amounts.{Amounts}
use Rattle.escrow_laws.specs.declared.bounded.Bounded.{Bounded}

-- the number after an operation, where that is legal from `low` to `high` and then gives and takes amounts. Of numbers from 0 to top:
-- `take k, ok` is legal from k to top and takes k; `take k, short` from 0 to k - 1; `give k, ok` from 0 to top - k, and gives k;
-- `give k, full` from top - k + 1 to top
abbrev pub moved : Bounded → ℕ → Option ℕ
moved b s = if nat_le b.low s && nat_le s b.high then Some (s + b.gives - b.takes) else None

-- an operation that there isn't is legal nowhere
abbrev pub moved_by : Option Bounded → ℕ → Option ℕ
moved_by None s = None
moved_by (Some b) s = moved b s

-- how much they give and take
abbrev pub gives_of : Option Bounded → ℕ
gives_of None = 0
gives_of (Some b) = b.gives

abbrev pub takes_of : Option Bounded → ℕ
takes_of None = 0
takes_of (Some b) = b.takes

abbrev pub amounts_of : List Bounded → Amounts
amounts_of ops = record { gives = λ k. gives_of (slice_get ops k); takes = λ k. takes_of (slice_get ops k) }

-- an operation on numbers from 0 to top: it is legal at none above, and leads to none below or above
pub record IsWithinBounds (top : ℕ) (b : Bounded) : Type 0 where
  pub enough : b.takes ≤ b.low
  pub legal : b.high ≤ top
  pub room : b.high + b.gives ≤ top + b.takes

-- each of these is one
abbrev pub AreWithin : ℕ → List Bounded → Type 0
AreWithin top ops = (k : ℕ) (b : Bounded) → slice_get ops k ≡ Some b → IsWithinBounds top b

-- the type's states are the numbers from 0 to top, and its operations are these
pub record AreBounds (T : Table) (top : ℕ) (ops : List Bounded) : Type 0 where
  pub steps : (s k : ℕ) → next T s k ≡ moved_by (slice_get ops k) s
  pub within : AreWithin top ops

-- the steps of such a type, as a table has them. For a large top they are written nowhere
unfoldable pub steps_of : ℕ → List Bounded → List (Option ℕ)
steps_of top ops = map (λ i. moved_by (slice_get ops (i % length ops)) (i / length ops)) (range_with_len 0 (length ops * (top + 1)))

-- ---- the bounds of a table's operations

-- the least state in which operation k is legal, and the greatest
abbrev pub least_legal : Table → ℕ → Option ℕ
least_legal T k = first_below T.states (λ s. is_some (next T s k))

abbrev pub greatest_legal : Table → ℕ → Option ℕ
greatest_legal T k = last_below T.states (λ s. is_some (next T s k))

-- what is legal nowhere is legal from 1 to 0
abbrev pub nowhere : Bounded
nowhere = record { low = 1; high = 0; gives = 0; takes = 0 }

-- legal from the one to the other, and moving each state as far as it moves the least
abbrev pub bounded_between : Table → ℕ → Option ℕ → Option ℕ → Bounded
bounded_between T k (Some low) (Some high) =
    let end = unwrap_or (next T low k) low in
    record { low = low; high = high; gives = end - low; takes = low - end }
bounded_between T k low high = nowhere

abbrev pub bounded_at : Table → ℕ → Bounded
bounded_at T k = bounded_between T k (least_legal T k) (greatest_legal T k)

abbrev pub bounds_of : Table → List Bounded
bounds_of T = map (bounded_at T) (range_with_len 0 (length T.ops))

-- ---- bounds that the steps tell

-- an operation that is legal at some number, and doesn't both give and take
pub record IsOneWay (b : Bounded) : Type 0 where
  pub somewhere : b.low ≤ b.high
  pub one_way : (b.gives ≡ 0) ⊎ (b.takes ≡ 0)

-- such an operation, or one that is legal nowhere: no others have the same steps
abbrev pub IsPlainOperation : Bounded → Type 0
IsPlainOperation b = IsOneWay b ⊎ (b ≡ nowhere)

-- each of these is one
abbrev pub ArePlain : List Bounded → Type 0
ArePlain ops = (k : ℕ) (b : Bounded) → slice_get ops k ≡ Some b → IsPlainOperation b
