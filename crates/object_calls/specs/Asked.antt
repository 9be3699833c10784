-- What is looked at to answer a call.
use Rattle.std.specs.Prelude.{◌≡◌, ℕ, ◌<◌, length, true}
use Rattle.std.specs.Int.{bit_at}
use Rattle.type_table.specs.Operation.{operation_at, place_of, amount_of}
use Rattle.type_table.specs.Table.{Table, call_of, is_same_call}
use Rattle.object_trait.specs.Meaning.{Meaning}
use Rattle.object_trait.specs.Steps.{IsLegalFor}
use Rattle.object_calls.specs.declared.call.Call.{Call}

-- the operation at another place with the same amount
abbrev pub beside : ℕ → ℕ → ℕ
beside operation place = operation_at place (amount_of operation)

-- what is looked at are operations of the table: those beside the asked one, at the places of its word
abbrev pub AreLookedAt : Table → Call → Type 0
AreLookedAt T asked = (place : ℕ) → place < 64 → bit_at asked.operations place ≡ 1 → beside asked.first place < length T.ops

-- whichever operations of the call c are legal for t have the amount of the asked one, and places of its word; and what is looked at and is
-- legal for t is of that call
pub record IsAskedCall (m : Meaning) (t c : ℕ) (asked : Call) : Type 0 where
  pub same : call_of m.checked.file.table asked.first ≡ call_of m.checked.file.table c
  pub covers :
      (k : ℕ) → is_same_call m.checked.file.table k c ≡ true → IsLegalFor m t k
      → (amount_of k ≡ amount_of asked.first) × (place_of k < 64) × (bit_at asked.operations (place_of k) ≡ 1)
  pub of_call :
      (place : ℕ) → place < 64 → bit_at asked.operations place ≡ 1 → IsLegalFor m t (beside asked.first place)
      → is_same_call m.checked.file.table (beside asked.first place) c ≡ true
