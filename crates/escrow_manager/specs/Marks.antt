-- The marks of open transactions, in the order of the transactions' numbers.
use Rattle.std.specs.Prelude.{ℕ, ◌+◌, ◌-◌, ◌≤◌, nat_le, nat_lt, Bool, not, ◌&&◌, ◌||◌, List}
use Rattle.object_trait.specs.Rows as rows
use Rattle.escrow_laws.specs.Marks.{unmarked, is_legal_from}
use Rattle.escrow_laws.specs.declared.bounded.Bounded.{Bounded}
use Rattle.escrow_laws.specs.declared.mark.Mark.{Mark}
use Rattle.escrow_laws.specs.declared.mark.OpenMark.{OpenMark}

-- whose mark it is
abbrev pub mark_owner : OpenMark → ℕ
mark_owner o = o.by

-- whose marks they are
abbrev pub mark_owners : List OpenMark → List ℕ
mark_owners marks = rows.row_owners mark_owner marks

-- each is of an earlier transaction than those after it
abbrev pub MarksAscend : List OpenMark → Type 0
MarksAscend marks = rows.RowsAscend mark_owner marks

-- t's index among the marks: after those of earlier transactions
abbrev pub mark_index : ℕ → List OpenMark → ℕ
mark_index t marks = rows.row_index mark_owner t marks

-- t's mark is at this index
abbrev pub IsMarkAt : ℕ → ℕ → List OpenMark → Type 0
IsMarkAt t at marks = rows.IsRowAt mark_owner t at marks

-- t's mark, or that of no operations where it has none, on numbers from 0 to top
abbrev pub mark_in : ℕ → ℕ → List OpenMark → Mark
mark_in top t marks = rows.shown_of mark_owner (λ o. o.mark) (unmarked top) t marks

-- with this mark in the place of its transaction's, or before those of later ones
abbrev pub with_mark : OpenMark → List OpenMark → List OpenMark
with_mark w marks = rows.with_row mark_owner w marks

-- without that of t
abbrev pub without_mark : ℕ → List OpenMark → List OpenMark
without_mark t marks = rows.without_row mark_owner t marks

-- who has the mark u alone keeps who has the mark t: what t did is not legal from the lowest or the highest number that u may leave
abbrev pub mark_keeps_alone : ℕ → Mark → Mark → Bool
mark_keeps_alone base t u = not (is_legal_from t (base - u.fall) && is_legal_from t (base + u.rise))

-- where what t did is legal, that is so only if u falls further than to the least number from which it is legal, or rises as far as to the first from which it no longer is
abbrev pub moves_far : ℕ → Mark → Mark → Bool
moves_far base t u = nat_lt (base - t.floor) u.fall || nat_le (t.ceiling - base) u.rise

-- the numbers of a mark stay small with one more operation, on numbers from 0 to top
pub record IsSmall (top : ℕ) (mark : Mark) (b : Bounded) : Type 0 where
  pub enough : b.takes ≤ b.low
  pub low : b.low ≤ top
  pub gives : b.gives ≤ top + top
  pub fall : mark.fall ≤ top
  pub rise : mark.rise ≤ top
  pub above : mark.above ≤ top
  pub floor : mark.floor ≤ top
  pub ceiling : mark.ceiling ≤ top + 1
