-- A cursor reads the rows of a table.
use Rattle.std.proofs.Common.{◌≡◌, refl, sym, ap, ℕ, ◌+◌, List, [], ◌∷◌, ◌++◌, length, ◌∙◌, Bool, false, true, Option, Some}
use Rattle.std.proofs.lemmas.Option.{same_Some}
use Rattle.sqlite_value.specs.Order.{Row}
use Rattle.sqlite_trees.specs.View.{Advances, View, with_cursor}
use Rattle.journal.specs.Rows.{value_rows}
use Rattle.journal.specs.Tables.{OnlyReads}
use Rattle.journal.proofs.RowLemmas.{reads-more}

pub on : (old new : View) (row : Row) (found : Bool) → found ≡ true → Advances old new 0 row found → Advances old new 0 row true
on old new row true e h = h
on old new row false e h = absurd (cc)

pub off : (old new : View) (row : Row) (found : Bool) → found ≡ false → Advances old new 0 row found → Advances old new 0 row false
off old new row false e h = h
off old new row true e h = absurd (cc)

-- what a cursor that was placed has left
pub placed : (old new : View) (all : List Row) → new ≡ with_cursor old 0 all → new.cursors 0 ≡ Some all
placed old new all is = ap (λ (v : View). v.cursors 0) is

-- at its end a cursor has nothing left
pub at_end : (old new : View) (row : Row) → Advances old new 0 row false → (left : List Row) → old.cursors 0 ≡ Some left → left ≡ []
at_end old new row adv left at = same_Some left [] (sym at ∙ adv.0)

-- another row was read
pub reads_row : {E : Type 0} (row_at : ℕ → E → Row) (old new : View) (row : Row) (start : Option (List Row)) (m n : ℕ) (es : List E) (e : E)
    → Advances old new 0 row true → (left : List Row) → old.cursors 0 ≡ Some left → start ≡ Some (value_rows row_at m es ++ left)
    → m + length es ≡ n → row ≡ row_at n e
    → (more : List Row) × (new.cursors 0 ≡ Some more) × (start ≡ Some (value_rows row_at m (es ++ e ∷ []) ++ more))
reads_row row_at old new row start m n es e adv left at is many same =
    let first : left ≡ row ∷ adv.0 = (let e = sym at ∙ adv.1 in cc) in (
      adv.0,
      ap (λ (v : View). v.cursors 0) adv.2,
      is ∙ ap (λ x. Some (value_rows row_at m es ++ x)) (first ∙ ap (λ (r : Row). r ∷ adv.0) same) ∙ ap Some (reads-more row_at adv.0 m n es e many),
    )

pub reads_only : (first old new : View) (row : Row) → OnlyReads first old → Advances old new 0 row true → OnlyReads first new
reads_only first old new row was adv = rw (adv.2, was) refl
