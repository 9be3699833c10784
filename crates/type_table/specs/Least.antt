-- The least and the greatest number that passes a test.
use Rattle.std.specs.Prelude.{ℕ, zero, suc, Bool, true, false, cond, Option, Some, None}

-- a number that was found, else n where it passes
abbrev pub found_or : Option ℕ → Bool → ℕ → Option ℕ
found_or (Some k) passes n = Some k
found_or None true n = Some n
found_or None false n = None

-- the least number below n that passes
abbrev pub first_below : ℕ → (ℕ → Bool) → Option ℕ
first_below zero test = None
first_below (suc n) test = found_or (first_below n test) (test n) n

-- the greatest
abbrev pub last_below : ℕ → (ℕ → Bool) → Option ℕ
last_below zero test = None
last_below (suc n) test = cond (test n) (Some n) (last_below n test)
