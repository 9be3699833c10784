-- What is kept of all marks together: two sums and two extremes.
use Rattle.std.specs.Prelude.{ℕ, ◌+◌, ◌-◌, ◌^◌, ◌<◌, ◌≤◌, ◌&&◌, ◌||◌, nat_le, nat_lt, Bool, max, min, List}
use Rattle.escrow_laws.specs.Marks.{fallen_of, risen_of, most_needed, least_limit}
use Rattle.escrow_laws.specs.declared.mark.Mark.{Mark}
use Rattle.escrow_laws.specs.declared.mark.OpenMark.{OpenMark}
use Rattle.escrow_manager.specs.declared.totals.Totals.{Totals}

-- how much a mark needs beside what it falls itself, and below what it stays with what it rises itself
abbrev pub need_of : Mark → ℕ
need_of m = m.floor - m.fall

abbrev pub mark_limit : Mark → ℕ
mark_limit m = m.ceiling + m.rise

-- its sums are far below what a word of 64 bits holds
pub record HasShortSums (m : Mark) : Type 0 where
  pub fall : m.fall < 2 ^ 62
  pub rise : m.rise < 2 ^ 62
  pub ceiling : m.ceiling < 2 ^ 62

-- of marks on numbers from 0 to top
abbrev pub totals_of : ℕ → List OpenMark → Totals
totals_of top marks = record { fallen = fallen_of marks; risen = risen_of marks; needed = most_needed marks; limit = least_limit top marks }

-- with a new mark in the place of an old one; of the extremes at least as much, and at most as little, as is then needed
abbrev pub totals_with : Totals → Mark → Mark → Totals
totals_with totals old new = record {
  fallen = (totals.fallen - old.fall) + new.fall;
  risen = (totals.risen - old.rise) + new.rise;
  needed = max totals.needed (need_of new);
  limit = min totals.limit (mark_limit new);
}

-- these are the extremes then: the new mark is no less extreme than the old one, or another mark is more so than the old one
abbrev pub stand : Totals → Mark → Mark → Bool
stand totals old new =
    (nat_le (need_of old) (need_of new) || nat_lt (need_of old) totals.needed) && (nat_le (mark_limit new) (mark_limit old) || nat_lt totals.limit (mark_limit old))

-- by these all is firm
abbrev pub AreFirm : ℕ → Totals → Type 0
AreFirm base totals = (totals.fallen + totals.needed ≤ base) × (base + totals.risen < totals.limit)
