-- Which operations of a call may be legal at a number.
use Rattle.std.specs.Prelude.{◌≡◌, ℕ, ◌/◌, ◌≤◌, [], ◌∷◌, true, Option, Some, IsSome}
use Rattle.type_table.specs.Operation.{operation_at, place_of, amount_of}
use Rattle.type_table.specs.Run.{IsLegal}
use Rattle.type_table.specs.Table.{Table, call_of, has_op, is_same_call, next}
use Rattle.number_types.specs.Number.{Number, IsNumber}
use Rattle.number_types.specs.Operations.{number_table}

-- `called` is of the call of c, and whichever operations of that call are legal at the number have its amount, and are at the places of
-- the line of c; and what is legal there with that amount at these places is of that call
pub record IsCalled (T : Table) (number c called : ℕ) : Type 0 where
  pub same : call_of T called ≡ call_of T c
  pub place : place_of called ≡ place_of c
  pub covers : (k : ℕ) → is_same_call T k c ≡ true → IsSome (next T number k) → (amount_of k ≡ amount_of called) × (place_of k / 2 ≡ place_of c / 2)
  pub of_call :
      (place : ℕ) → place / 2 ≡ place_of c / 2 → IsSome (next T number (operation_at place (amount_of called)))
      → is_same_call T (operation_at place (amount_of called)) c ≡ true

-- of the call of c exactly k is legal after `from`
pub record IsOneLegal (T : Table) (from : Option ℕ) (c k : ℕ) : Type 0 where
  pub same : is_same_call T k c ≡ true
  pub legal : IsLegal T from (k ∷ [])
  pub only : (j : ℕ) → is_same_call T j c ≡ true → IsLegal T from (j ∷ []) → j ≡ k

-- of each call of a number exactly one operation is legal at each of its values
abbrev pub NumbersAnswer : Type 0
NumbersAnswer =
    (v : Number) → IsNumber v → (number c : ℕ) → number ≤ v.max → has_op (number_table v) c ≡ true
    → (k : ℕ) × IsOneLegal (number_table v) (Some number) c k
