-- Lists of operations that distinguish a state from another, and how long they have to be.
use Rattle.std.specs.Prelude.{◌≡◌, ℕ, ◌≤◌, Bool, true, false, ◌&&◌, ◌||◌, ◌==◌, nat_lt, List, [], ◌∷◌, length, Option, Some, None}
use Rattle.type_table.specs.Table.{Table}
use Rattle.type_table.specs.Run.{IsLegal, Looks}

-- a list distinguishes a from b: it is legal after a, and not after b
abbrev pub Tells : Table → Option ℕ → Option ℕ → List ℕ → Type 0
Tells T a b w = IsLegal T a w × (IsLegal T b w → ⊥)

-- this many operations distinguish a from b, and no fewer
pub record IsLeastLength (T : Table) (a b : Option ℕ) (n : ℕ) : Type 0 where
  pub list : List ℕ
  pub tells : Tells T a b list
  pub long : length list ≡ n
  pub least : (v : List ℕ) → Tells T a b v → n ≤ length v

-- how far s is from t: how many operations it takes to distinguish s from t, or None where s looks like t
abbrev pub IsDistance : Table → ℕ → ℕ → Option ℕ → Type 0
IsDistance T s t None = Looks T (Some s) (Some t)
IsDistance T s t (Some n) = IsLeastLength T (Some s) (Some t) n

-- of two lists v comes first in ascending order: it is a front of w, or its operation is smaller where they first differ
abbrev pub comes_before : List ℕ → List ℕ → Bool
comes_before v [] = false
comes_before [] (l ∷ w) = true
comes_before (k ∷ v) (l ∷ w) = nat_lt k l || (k == l && comes_before v w)

-- a list distinguishes a from b, none that does is shorter, and none as long that does comes before it
pub record IsDistinguishing (T : Table) (a b : Option ℕ) (w : List ℕ) : Type 0 where
  pub tells : Tells T a b w
  pub shortest : (v : List ℕ) → Tells T a b v → length w ≤ length v
  pub first : (v : List ℕ) → Tells T a b v → length v ≡ length w → comes_before v w ≡ false
