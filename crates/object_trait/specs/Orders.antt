-- Lists brought into another order, by exchanges of neighbours.
use Rattle.std.specs.Prelude.{◌≡◌, Bool, true, List, [], ◌∷◌}
use Rattle.std.specs.List.{AllByRecursion}

-- the fact holds of each element and each later one
abbrev pub Pairs : {E : Type 0} → (E → E → Type 0) → List E → Type 0
Pairs R [] = Unit {0}
Pairs R (x ∷ xs) = AllByRecursion (R x) xs × Pairs R xs

-- W is V after exchanges of neighbours. `free a b` says that a, which comes before b, may move after it
pub data Sorts {E : Type 0} (free : E → E → Bool) : List E → List E → Type 0 where
  same : {V : List E} → Sorts free V V
  swap : {a b : E} {V : List E} → free a b ≡ true → Sorts free (a ∷ b ∷ V) (b ∷ a ∷ V)
  under : {a : E} {V W : List E} → Sorts free V W → Sorts free (a ∷ V) (a ∷ W)
  chain : {U V W : List E} → Sorts free U V → Sorts free V W → Sorts free U W

-- V is two lists, shuffled: one whose elements stay, and one whose elements may each move after those of the first that come after it
pub data SplitsInto {E : Type 0} (free : E → E → Bool) : List E → List E → List E → Type 0 where
  none : SplitsInto free [] [] []
  stay : {a : E} {V A B : List E} → SplitsInto free V A B → SplitsInto free (a ∷ V) (a ∷ A) B
  goes : {b : E} {V A B : List E} → AllByRecursion (λ a. free b a ≡ true) A → SplitsInto free V A B → SplitsInto free (b ∷ V) A (b ∷ B)
