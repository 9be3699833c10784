-- The numbers of operations: those without an amount have their places, those with one come after them. The lemmas say that nothing is lost.
use Rattle.std.specs.Prelude.{◌≡◌, ℕ, suc, ◌+◌, ◌*◌, ◌/◌, ◌%◌, ◌<◌, Bool, true, false, Option, Some, None, List, is_some, length, get_or, unwrap_or, refl}
use Rattle.std.specs.Int.{w32, from_le_bytes, to_le_bytes}
use Rattle.std.proofs.Common.{zero, sym, ap, ◌∙◌, arith}
use Rattle.std.proofs.lemmas.Nat.{le_bytes_4}

-- more than there are places: a place is a byte
abbrev pub places : ℕ
places = 256

-- the operation at a place, without an amount or with one
abbrev pub operation_at : ℕ → Option ℕ → ℕ
operation_at k None = k
operation_at k (Some n) = k + 256 * suc n

-- the amount by what is left of a number without the place
abbrev pub amount_by : ℕ → Option ℕ
amount_by zero = None
amount_by (suc n) = Some n

-- the place of an operation, and its amount
abbrev pub place_of : ℕ → ℕ
place_of p = p % 256

abbrev pub amount_of : ℕ → Option ℕ
amount_of p = amount_by (p / 256)

mod-small : (k : ℕ) → k < 256 → k % 256 ≡ k
mod-small k small = omega (arith, small)

pub place-of-operation : (k : ℕ) (amount : Option ℕ) → k < 256 → place_of (operation_at k amount) ≡ k
place-of-operation k None small = mod-small k small
place-of-operation k (Some n) small =
    omega (arith, small)

pub amount-of-operation : (k : ℕ) (amount : Option ℕ) → k < 256 → amount_of (operation_at k amount) ≡ amount
amount-of-operation k None small =
    let none : k / 256 ≡ 0 = omega (arith, small) in
    ap amount_by none
amount-of-operation k (Some n) small =
    let rest : (k + 256 * suc n) / 256 ≡ suc n = omega (arith, small) in
    ap amount_by rest

-- the amount as a flag and a number
abbrev pub counted_amount : Bool → ℕ → Option ℕ
counted_amount false n = None
counted_amount true n = Some n

pub counted-of-operation : (k : ℕ) (counted : Bool) (n : ℕ) → k < 256 → is_some (amount_of (operation_at k (counted_amount counted n))) ≡ counted
counted-of-operation k false n small = ap is_some (amount-of-operation k None small)
counted-of-operation k true n small = ap is_some (amount-of-operation k (Some n) small)

amount-of-counted : (k : ℕ) (counted : Bool) (n : ℕ) → k < 256 → (counted ≡ false → n ≡ 0) → unwrap_or (amount_of (operation_at k (counted_amount counted n))) 0 ≡ n
amount-of-counted k false n small none = ap (λ a. unwrap_or a 0) (amount-of-operation k None small) ∙ sym (none refl)
amount-of-counted k true n small none = ap (λ a. unwrap_or a 0) (amount-of-operation k (Some n) small)

pub bytes-of-counted : (k : ℕ) (counted : Bool) (bytes : List ℕ) → k < 256 → length bytes ≡ 4 → ((i : ℕ) → get_or bytes i 0 < 256) → (counted ≡ false → from_le_bytes w32 bytes ≡ 0)
    → to_le_bytes w32 (unwrap_or (amount_of (operation_at k (counted_amount counted (from_le_bytes w32 bytes)))) 0) ≡ bytes
bytes-of-counted k counted bytes small four are none = le_bytes_4 bytes _ four are (amount-of-counted k counted (from_le_bytes w32 bytes) small none)

-- an operation is told by its place and its amount
pub operation-again : (p : ℕ) → operation_at (place_of p) (amount_of p) ≡ p
operation-again p = go (p / 256) refl
  where
    go : (q : ℕ) → p / 256 ≡ q → operation_at (p % 256) (amount_by q) ≡ p
    go zero eq =
        let same : p % 256 ≡ p = omega (arith, eq) in
        same
    go (suc n) eq =
        let same : p % 256 + 256 * suc n ≡ p = omega (arith, eq) in
        same
