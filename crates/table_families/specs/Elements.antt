-- The parameters of sets and semiqueues.
use Rattle.std.specs.Prelude.{◌≢◌, ℕ, ◌<◌, ◌≤◌, Bool, false, ◌||◌, List, [], ◌∷◌, length, nat_le, slice_index_or}
use Rattle.std.specs.List.{list_any}
use Rattle.std.specs.Str.{bytes_eq}

-- the element at a place
abbrev pub element_at : List (List ℕ) → ℕ → List ℕ
element_at elements i = slice_index_or elements i []

-- distinct names of at most this many bytes, at least one
pub record AreElements (most : ℕ) (elements : List (List ℕ)) : Type 0 where
  pub some : 0 < length elements
  pub short : (i : ℕ) → i < length elements → length (element_at elements i) ≤ most
  pub distinct : (i j : ℕ) → i < j → j < length elements → element_at elements i ≢ element_at elements j

-- an element has at most this many bytes, as a test
abbrev pub is_short : ℕ → List ℕ → Bool
is_short most e = nat_le (length e) most

-- an element comes twice, as a test
abbrev pub repeats : List (List ℕ) → Bool
repeats [] = false
repeats (e ∷ elements) = list_any (λ other. bytes_eq other e) elements || repeats elements
