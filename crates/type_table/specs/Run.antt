-- Lists of operations: where they lead, and what a state allows (Weihl 1988).
use Rattle.std.specs.Prelude.{ℕ, List, [], ◌∷◌, Option, Some, None, IsSome}
use Rattle.type_table.specs.Table.{Table, next}

-- the next state, where there may be no state
abbrev pub next_of : Table → Option ℕ → ℕ → Option ℕ
next_of T None k = None
next_of T (Some s) k = next T s k

-- the state after a list of operations
abbrev pub run : Table → Option ℕ → List ℕ → Option ℕ
run T from [] = from
run T from (k ∷ ks) = run T (next_of T from k) ks

-- a list is legal where there is a state after it
abbrev pub IsLegal : Table → Option ℕ → List ℕ → Type 0
IsLegal T from ks = IsSome (run T from ks)

-- a looks like b: each list that is legal after a is legal after b
abbrev pub Looks : Table → Option ℕ → Option ℕ → Type 0
Looks T a b = (ks : List ℕ) → IsLegal T a ks → IsLegal T b ks

-- equieffective: each looks like the other
abbrev pub AreEqui : Table → Option ℕ → Option ℕ → Type 0
AreEqui T a b = Looks T a b × Looks T b a
