-- What it is to take the lowest bit out of a word.
use Rattle.std.specs.Prelude.{◌≡◌, ◌≢◌, ℕ, ◌<◌}
use Rattle.std.specs.Int.{bit_at}

-- the bit at k is the lowest of the old word, and the new word has all others
pub record TakesLowest (old k new : ℕ) : Type 0 where
  pub within : k < 64
  pub has : bit_at old k ≡ 1
  pub lowest : (q : ℕ) → q < k → bit_at old q ≡ 0
  pub taken : bit_at new k ≡ 0
  pub others : (q : ℕ) → q < 64 → q ≢ k → bit_at new q ≡ bit_at old q
  pub less : new < old
