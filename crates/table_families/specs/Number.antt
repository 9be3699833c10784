-- Numbers: they have no table, and amounts are taken and given. A refusal is an operation with a reply.
use Rattle.std.specs.Prelude.{◌≡◌, ℕ, ◌+◌, ◌*◌, ◌<◌, ◌≤◌, List, ◌++◌, length, map, Result, Ok, Err, codes}
use Rattle.number_types.specs.Number.{Number}
use Rattle.number_types.specs.declared.number_call.NumberCall.{NumberCall}
use Rattle.number_types.specs.declared.number_call.NumberCall.TheVariants.{Take, Give}
use Rattle.table_families.specs.Amounts.{amount_at}
use Rattle.table_maker.specs.declared.make_error.MakeError.{MakeError}
use Rattle.table_maker.specs.declared.make_error.MakeError.TheVariants.{BadParameter, TooLarge, NoMemory}

-- first each amount is taken, then each is given
abbrev pub amount_calls : List ℕ → List NumberCall
amount_calls amounts = map Take amounts ++ map Give amounts

-- a number from 0, where it begins, to a greatest value
abbrev pub amounts_number : ℕ → List ℕ → Number
amounts_number max amounts = record {
  name = codes "number";
  max = max;
  initial = 0;
  calls = amount_calls amounts;
}

-- a greatest value of at least 1, and amounts from 1 to it, strictly ascending, at least one
pub record AreNumberAmounts (max : ℕ) (amounts : List ℕ) : Type 0 where
  pub some_max : 1 ≤ max
  pub some : 0 < length amounts
  pub each : (i : ℕ) → i < length amounts → (1 ≤ amount_at amounts i) × (amount_at amounts i ≤ max)
  pub ascending : (i : ℕ) → i + 1 < length amounts → amount_at amounts i < amount_at amounts (i + 1)

-- at most 64 operations, four of each amount
abbrev pub NumberFits : List ℕ → Type 0
NumberFits amounts = 4 * length amounts ≤ 64

-- `BadParameter` exactly where the parameters aren't good, else `TooLarge` exactly where there are too many operations, else this
-- number, or refused memory
abbrev pub MakesNumber : Result Number MakeError → Type 0 → Type 0 → Number → Type 0
MakesNumber (Ok made) IsGood Fits v = IsGood × Fits × (made ≡ v)
MakesNumber (Err BadParameter) IsGood Fits v = IsGood → ⊥
MakesNumber (Err TooLarge) IsGood Fits v = IsGood × (Fits → ⊥)
MakesNumber (Err NoMemory) IsGood Fits v = IsGood × Fits
