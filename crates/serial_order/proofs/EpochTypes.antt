-- Types at the states that an epoch kept: what is at a place, and how many they are.
use Rattle.std.proofs.Common.{◌≡◌, ℕ, zero, suc, ◌<◌, List, [], ◌∷◌, ◌++◌, ◌⊎◌, inl, inr, length, get_or, Some, slice_get, refl, ap, ap₂, arith}
use Rattle.std.proofs.lemmas.Option.{none-some, same_Some, slice_get-get_or, slice_get_within}
use Rattle.type_table.proofs.Elements.{found-front}
use Rattle.table_checker.specs.At.{checked_at}
use Rattle.table_checker.specs.Checked.{Checked}
use Rattle.serial_order.specs.Epochs.{Epoch, types_at, types_behind}

-- a type at a kept state is that of a type and a kept state
pub record IsAt (types : List Checked) (kept : List ℕ) (x : ℕ) (d : Checked) : Type 0 where
  pub c : Checked
  pub s : ℕ
  pub type : slice_get types x ≡ Some c
  pub state : slice_get kept x ≡ Some s
  pub is : checked_at c s ≡ d

pub is-at : (types : List Checked) (kept : List ℕ) (x : ℕ) (d : Checked) → slice_get (types_at types kept) x ≡ Some d → IsAt types kept x d
is-at [] kept x d there = absurd (none-some d there)
is-at (c ∷ types) [] x d there = absurd (none-some d there)
is-at (c ∷ types) (s ∷ kept) zero d there = record { c = c; s = s; type = refl; state = refl; is = same_Some (checked_at c s) d there }
is-at (c ∷ types) (s ∷ kept) (suc x) d there =
    let rest = is-at types kept x d there in
    record { c = rest.c; s = rest.s; type = rest.type; state = rest.state; is = rest.is }

-- a kept state for each type makes as many types
pub length-types_at : (types : List Checked) (kept : List ℕ) → length kept ≡ length types → length (types_at types kept) ≡ length types
length-types_at [] kept as_many = refl
length-types_at (c ∷ types) [] as_many = absurd (omega (arith, as_many))
length-types_at (c ∷ types) (s ∷ kept) as_many = ap suc (length-types_at types kept (omega (arith, as_many)))

-- an epoch keeps a state of each object, from which its type goes on
pub record GoesOn (types : List Checked) (e : Epoch) (x : ℕ) (c : Checked) : Type 0 where
  pub s : ℕ
  pub state : slice_get e.kept x ≡ Some s
  pub behind : slice_get (types_behind types e) x ≡ Some (checked_at c s)

at-place : (types : List Checked) (kept : List ℕ) (x : ℕ) (c : Checked) (s : ℕ) → slice_get types x ≡ Some c → slice_get kept x ≡ Some s → slice_get (types_at types kept) x ≡ Some (checked_at c s)
at-place [] kept x c s there state = absurd (none-some c there)
at-place (d ∷ types) [] x c s there state = absurd (none-some s state)
at-place (d ∷ types) (r ∷ kept) zero c s there state = ap Some (ap₂ checked_at (same_Some d c there) (same_Some r s state))
at-place (d ∷ types) (r ∷ kept) (suc x) c s there state = at-place types kept x c s there state

pub goes-on : (types : List Checked) (e : Epoch) (x : ℕ) (c : Checked) → length e.kept ≡ length types → slice_get types x ≡ Some c → GoesOn types e x c
goes-on types e x c as_many there =
    let low : x < length e.kept = omega (arith, as_many, slice_get_within types x c there) in
    let s = get_or e.kept x 0 in
    let state : slice_get e.kept x ≡ Some s = slice_get-get_or e.kept x 0 low in
    let at = at-place types e.kept x c s there state in
    record { s = s; state = state; behind = found-front (types_at types e.kept) e.added x (checked_at c s) at }

-- what is at a place of two lists is at a place of one of them
pub found-parts : {A : Type 0} (xs ys : List A) (x : ℕ) (d : A) → slice_get (xs ++ ys) x ≡ Some d → (slice_get xs x ≡ Some d) ⊎ ((i : ℕ) × (slice_get ys i ≡ Some d))
found-parts [] ys x d there = inr (x, there)
found-parts (y ∷ xs) ys zero d there = inl there
found-parts (y ∷ xs) ys (suc x) d there = found-parts xs ys x d there
