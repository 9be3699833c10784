-- Each transaction's mark, where one is put in its place or taken out.
use Rattle.std.proofs.Common.{◌≡◌, ℕ, false, eqb, List, get_or}
use Rattle.object_trait.proofs.Rows.{shown_there, shown_nowhere, shown-put, shown-put_other, shown-dropped, shown-dropped_other}
use Rattle.escrow_laws.specs.Marks.{unmarked}
use Rattle.escrow_laws.specs.declared.mark.Mark.{Mark}
use Rattle.escrow_laws.specs.declared.mark.OpenMark.{OpenMark}
use Rattle.escrow_manager.specs.Marks.{mark_owner, MarksAscend, mark_index, IsMarkAt, mark_in, with_mark, without_mark}

abbrev its : OpenMark → Mark
its o = o.mark

-- in its place is its transaction's mark, if it has one
pub seen_there : (t top : ℕ) (marks : List OpenMark) (d : OpenMark) → IsMarkAt t (mark_index t marks) marks → (get_or marks (mark_index t marks) d).mark ≡ mark_in top t marks
seen_there t top = shown_there mark_owner its (unmarked top) t

-- else it has that of no operations
pub seen_nowhere : (t top : ℕ) (marks : List OpenMark) → MarksAscend marks → (IsMarkAt t (mark_index t marks) marks → ⊥) → mark_in top t marks ≡ unmarked top
seen_nowhere t top = shown_nowhere mark_owner its (unmarked top) t

-- with a mark put: its transaction's
pub seen-put : (w : OpenMark) (top : ℕ) (marks : List OpenMark) → mark_in top w.by (with_mark w marks) ≡ w.mark
seen-put w top = shown-put mark_owner its (unmarked top) w

-- and another's
pub seen-put_other : (w : OpenMark) (u top : ℕ) (marks : List OpenMark) → eqb w.by u ≡ false → mark_in top u (with_mark w marks) ≡ mark_in top u marks
seen-put_other w u top = shown-put_other mark_owner its (unmarked top) w u

-- with a mark taken out: its transaction's
pub seen-dropped : (t top : ℕ) (marks : List OpenMark) → mark_in top t (without_mark t marks) ≡ unmarked top
seen-dropped t top = shown-dropped mark_owner its (unmarked top) t

-- and another's
pub seen-dropped_other : (t u top : ℕ) (marks : List OpenMark) → eqb t u ≡ false → mark_in top u (without_mark t marks) ≡ mark_in top u marks
seen-dropped_other t u top = shown-dropped_other mark_owner its (unmarked top) t u
