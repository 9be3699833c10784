-- How a short list is kept in a buffer of fixed size. The lemmas say that nothing is lost, as a `Model` asks.
use Rattle.std.specs.Prelude.{◌≡◌, ℕ, ◌-◌, ◌≤◌, List, ◌++◌, length, take, drop, replicate}
use Rattle.std.proofs.Common.{arith}
use Rattle.std.proofs.lemmas.List.{take-append-drop, length-take-le}

-- a buffer of this many cells, of which those after the first len are blank
pub record IsPadded {A : Type 0} (size : ℕ) (blank : A) (cells : List A) (len : ℕ) : Type 0 where
  pub whole : length cells ≡ size
  pub within : len ≤ size
  pub rest : drop len cells ≡ replicate (size - len) blank

pub length-padded : {A : Type 0} {size : ℕ} {blank : A} (cells : List A) (len : ℕ) → IsPadded size blank cells len → length (take len cells) ≡ len
length-padded cells len h = length-take-le len cells (omega (arith, h.whole, h.within))

-- the list and blanks are the buffer again
pub padded_again : {A : Type 0} {size : ℕ} {blank : A} (cells : List A) (len : ℕ) → IsPadded size blank cells len →
    take len cells ++ replicate (size - length (take len cells)) blank ≡ cells
padded_again cells len h = rw (length-padded cells len h, ← h.rest) (take-append-drop len cells)
