-- What rows say of a file, with the head before them.
use Rattle.std.proofs.Common.{◌≡◌, ◌↔◌, ℕ, true, false, List, ◌++◌, Option, Contains, refl, inl, inr}
use Rattle.std.specs.List.{list_all}
use Rattle.type_text.specs.TypeFile.{IsReached}
use Rattle.type_text.specs.Rows.{lines_of_rows, is_head}
use Rattle.type_text.specs.declared.row.Row.{Row}
use Rattle.type_text.specs.declared.type_line.TypeLine.{TypeLine}
use Rattle.type_text.specs.declared.type_line.TypeLine.TheVariants.{Step, Reach}
use Rattle.type_text.proofs.Steps.{AreStepsOf}
use Rattle.type_text.proofs.Rows.{rows_among, among_rows}

module _ (head : List TypeLine) (rows : List Row) (heads : list_all is_head head ≡ true) where
  -- a line that rows say is among them exactly where it is among all
  pub among : (x : TypeLine) → is_head x ≡ false → Contains (lines_of_rows rows) x ↔ Contains (head ++ lines_of_rows rows) x
  among x behind = (rows_among head rows x, among_rows head rows heads x behind)

  -- the entries of a table
  pub AreStepsOf-whole : (ops : ℕ) (steps : List (Option ℕ)) → AreStepsOf ops (lines_of_rows rows) steps → AreStepsOf ops (head ++ lines_of_rows rows) steps
  AreStepsOf-whole ops steps are = λ s k t below. (
    λ e. (among (Step s k t) refl).0 ((are s k t below).0 e),
    λ h. (are s k t below).1 ((among (Step s k t) refl).1 h),
  )

  -- the states of the set
  pub IsReached-whole : (states s : ℕ) → IsReached (lines_of_rows rows) states s ↔ IsReached (head ++ lines_of_rows rows) states s
  IsReached-whole states s = (
    λ h. elim h [
      | inl here ↦ inl ((among (Reach s) refl).0 here)
      | inr none ↦ inr (none.0, λ r k. none.1 r ((among (Reach r) refl).1 k))
    ],
    λ h. elim h [
      | inl here ↦ inl ((among (Reach s) refl).1 here)
      | inr none ↦ inr (none.0, λ r k. none.1 r ((among (Reach r) refl).0 k))
    ],
  )
