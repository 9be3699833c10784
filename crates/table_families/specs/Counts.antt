-- Lists of counts with a bounded sum, in lexicographic order.
use Rattle.std.specs.Prelude.{◌≡◌, ◌↔◌, ℕ, zero, suc, ◌+◌, ◌-◌, ◌<◌, ◌≤◌, List, [], ◌∷◌, length, map, min, Contains, slice_index_or, sum}
use Rattle.std.specs.List.{flat_map, range_with_len}

-- the lists of this many counts with a sum of at most `room`: first those that begin with 0, then those that begin with 1, and so on
abbrev pub counts_within : ℕ → ℕ → List (List ℕ)
counts_within zero room = [] ∷ []
counts_within (suc n) room = flat_map (λ c. map (λ cs. c ∷ cs) (counts_within n (room - c))) (range_with_len 0 (room + 1))

-- a comes before b: they have a common beginning, and then a's count is smaller
pub record CountsPrecede (a b : List ℕ) : Type 0 where
  pub place : ℕ
  pub within : place < length b
  pub common : (i : ℕ) → i < place → slice_index_or a i 0 ≡ slice_index_or b i 0
  pub smaller : slice_index_or a place 0 < slice_index_or b place 0

-- what the lists are: exactly those of n counts with a sum of at most `room`, each once, in lexicographic order
pub record AreCountsWithin (n room : ℕ) (lists : List (List ℕ)) : Type 0 where
  pub all : (cs : List ℕ) → Contains lists cs ↔ ((length cs ≡ n) × (sum cs ≤ room))
  pub ascending : (i j : ℕ) → i < j → j < length lists → CountsPrecede (slice_index_or lists i []) (slice_index_or lists j [])

-- how many lists there are, or 1,025 where there are more
abbrev pub number_within : ℕ → ℕ → ℕ
number_within n room = min (length (counts_within n room)) 1025

-- a number for each room from 0 to 1,023
pub record AreNumbers (n : ℕ) (numbers : List ℕ) : Type 0 where
  pub whole : length numbers ≡ 1024
  pub each : (room : ℕ) → room < 1024 → slice_index_or numbers room 0 ≡ number_within n room

-- the law: the lists are what they are said to be
abbrev pub CountsInOrder : Type 0
CountsInOrder = (n room : ℕ) → AreCountsWithin n room (counts_within n room)
