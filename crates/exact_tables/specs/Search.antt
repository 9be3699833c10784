-- How far the search for distances has come.
use Rattle.std.specs.Prelude.{◌≡◌, ◌⊎◌, ℕ, ◌+◌, ◌*◌, ◌<◌, ◌≤◌, ◌==◌, List, [], ◌∷◌, length, Some, slice_get, slice_index_or, count_by, replicate}
use Rattle.type_table.specs.Table.{Table, next}
use Rattle.exact_tables.specs.Tell.{Tells, IsLeastLength}

-- a number for each two states, which is 0 while none is known, and the pairs that were given one in this round
pub record Marked : Type 0 where
  pub states : ℕ
  pub cells : List ℕ
  pub found : List (ℕ × ℕ)

-- the number of s and t
abbrev pub pair_number : Marked → ℕ → ℕ → ℕ
pair_number m s t = slice_index_or m.cells (s * m.states + t) 0

-- the pair was given a number in this round
abbrev pub IsFound : Marked → ℕ → ℕ → Type 0
IsFound m s t = (place : ℕ) × (slice_get m.found place ≡ Some (s, t))

-- no number is known
abbrev pub none_marked : ℕ → Marked
none_marked states = record { states = states; cells = replicate (states * states) 0; found = [] }

-- the pairs that were found are taken out
abbrev pub taken : Marked → Marked
taken m = record m { found = [] }

-- how many pairs have no number
abbrev pub unknown : Marked → ℕ
unknown m = count_by (λ n. n == 0) m.cells

-- ---- giving numbers

-- the pair has a number
pub record HasPairNumber (m : Marked) (s t : ℕ) : Type 0 where
  pub first : s < m.states
  pub second : t < m.states
  pub known : 0 < pair_number m s t

-- the pair is one of these, its number is n, and it was found in this round
pub record IsStruck (n : ℕ) (P : ℕ → ℕ → Type 0) (m : Marked) (s t : ℕ) : Type 0 where
  pub because : P s t
  pub at : pair_number m s t ≡ n
  pub listed : IsFound m s t

-- each of these pairs that had no number is given n, and nothing else changes
pub record Strikes (n : ℕ) (P : ℕ → ℕ → Type 0) (old new : Marked) : Type 0 where
  pub states : new.states ≡ old.states
  pub all : (s t : ℕ) → s < old.states → t < old.states → P s t → 0 < pair_number new s t
  pub kept : (s t : ℕ) → s < old.states → t < old.states → 0 < pair_number old s t → pair_number new s t ≡ pair_number old s t
  pub only : (s t : ℕ) → s < old.states → t < old.states → 0 < pair_number new s t → (0 < pair_number old s t) ⊎ IsStruck n P new s t
  pub still : (s t : ℕ) → IsFound old s t → IsFound new s t
  pub found : (s t : ℕ) → IsFound new s t → IsFound old s t ⊎ HasPairNumber new s t
  pub counted : length new.found + unknown new ≡ length old.found + unknown old

-- ---- rounds

-- an operation alone distinguishes s from t
abbrev pub IsToldAtOnce : Table → ℕ → ℕ → Type 0
IsToldAtOnce T s t = (k : ℕ) × Tells T (Some s) (Some t) (k ∷ [])

-- an operation below n leads from s and t to these two
pub record LeadsBelow (T : Table) (s2 t2 n s t : ℕ) : Type 0 where
  pub op : ℕ
  pub below : op < n
  pub first : next T s op ≡ Some s2
  pub second : next T t op ≡ Some t2

-- an operation leads from s and t to one of the first n pairs
pub record LeadsAmong (T : Table) (pairs : List (ℕ × ℕ)) (n s t : ℕ) : Type 0 where
  pub place : ℕ
  pub below : place < n
  pub after_s : ℕ
  pub after_t : ℕ
  pub is : slice_get pairs place ≡ Some (after_s, after_t)
  pub leads : LeadsBelow T after_s after_t (length T.ops) s t

-- after n rounds exactly the pairs that at most n operations distinguish have a number, which is how many it takes;
-- those of n were found in the last round
pub record AfterRounds (T : Table) (n : ℕ) (m : Marked) : Type 0 where
  pub states : m.states ≡ T.states
  pub told : (s t : ℕ) → s < T.states → t < T.states → 0 < pair_number m s t → IsLeastLength T (Some s) (Some t) (pair_number m s t)
  pub within : (s t : ℕ) → s < T.states → t < T.states → pair_number m s t ≤ n
  pub untold : (s t : ℕ) → s < T.states → t < T.states → pair_number m s t ≡ 0 → (v : List ℕ) → Tells T (Some s) (Some t) v → n < length v
  pub listed : (s t : ℕ) → s < T.states → t < T.states → pair_number m s t ≡ n → IsFound m s t
  pub found : (s t : ℕ) → IsFound m s t → HasPairNumber m s t

-- the rounds are over: none was found in the last one
pub record IsOver (T : Table) (m : Marked) : Type 0 where
  pub rounds : ℕ
  pub some : 0 < rounds
  pub after : AfterRounds T rounds m
  pub none : m.found ≡ []
