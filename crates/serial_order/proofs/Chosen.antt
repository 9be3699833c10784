-- The elements of a list that pass a test, under a function: where each number comes from.
use Rattle.std.proofs.Common.{◌≡◌, ℕ, zero, suc, Bool, true, List, [], ◌∷◌, map, filter, Contains, refl, inl, inr, arith}
use Rattle.std.proofs.lemmas.Bool.{cases_Bool}

-- an element of a list under a function comes from an element that passes the test
pub record IsFrom {E : Type 0} (op : E → ℕ) (test : E → Bool) (V : List E) (p : ℕ) : Type 0 where
  pub element : E
  pub inside : Contains V element
  pub passes : test element ≡ true
  pub is : op element ≡ p

-- what comes from an element of a list comes from one of the longer list
from_more : {E : Type 0} (op : E → ℕ) (test : E → Bool) (e : E) (V : List E) (p : ℕ) → IsFrom op test V p → IsFrom op test (e ∷ V) p
from_more op test e V p h = record { element = h.element; inside = (suc h.inside.0, omega (arith, h.inside.1), h.inside.2); passes = h.passes; is = h.is }

-- a number of a chosen element, or of those after it, comes from one of these
from_head : {E : Type 0} (op : E → ℕ) (test : E → Bool) (e : E) (V : List E) (p : ℕ) → (Contains (map op (filter test V)) p → IsFrom op test V p) →
    test e ≡ true → Contains (op e ∷ map op (filter test V)) p → IsFrom op test (e ∷ V) p
from_head op test e V p behind chosen (zero, below, is) = record { element = e; inside = (0, omega arith, refl); passes = chosen; is = is }
from_head op test e V p behind chosen (suc i, below, is) = from_more op test e V p (behind (i, omega (arith, below), is))

-- each number of the chosen elements comes from an element that was chosen
pub from_chosen : {E : Type 0} (op : E → ℕ) (test : E → Bool) (V : List E) (p : ℕ) → Contains (map op (filter test V)) p → IsFrom op test V p
from_chosen op test [] p (i, below, is) = absurd (omega (arith, below))
from_chosen op test (e ∷ V) p h = elim (cases_Bool (test e)) [
  | inl chosen ↦ from_head op test e V p (from_chosen op test V p) chosen (rw chosen at h)
  | inr left ↦ from_more op test e V p (from_chosen op test V p (rw left at h))
]
