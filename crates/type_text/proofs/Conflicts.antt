-- The pairs of a conflict table, as lines are read.
use Rattle.std.proofs.Common.{◌≡◌, ℕ, ◌+◌, ◌<◌, ◌⊎◌, ◌↔◌, Bool, true, false, List, [], length, take, get_or, Contains, sym, ◌∙◌, inl, inr, arith}
use Rattle.std.proofs.lemmas.Bool.{false≢true}
use Rattle.type_table.specs.ConflictTable.{conflicts}
use Rattle.type_table.specs.declared.table_kind.TableKind.{TableKind}
use Rattle.type_text.specs.declared.type_line.TypeLine.{TypeLine}
use Rattle.type_text.specs.declared.type_line.TypeLine.TheVariants.{Conflict}
use Rattle.type_text.proofs.Members.{Contains-more, Contains-last, Contains-more_cases}

-- the pairs are those of the lines of this kind
abbrev pub AreConflictsOf : TableKind → List TypeLine → List (List Bool) → Type 0
AreConflictsOf kind lines rows = (p q : ℕ) → (conflicts rows p q ≡ true) ↔ Contains lines (Conflict kind p q)

-- no pair where there is no line
pub conflicts_none : (kind : TableKind) (rows : List (List Bool)) → ((p q : ℕ) → conflicts rows p q ≡ false) → AreConflictsOf kind [] rows
conflicts_none kind rows none = λ p q. (λ e. absurd (false≢true (sym (none p q) ∙ e)), λ h. absurd (omega (arith, h.1)))

-- one more line
pub conflicts_more : (kind : TableKind) (lines : List TypeLine) (i : ℕ) (line : TypeLine) (old new : List (List Bool)) → i < length lines → line ≡ get_or lines i line →
    AreConflictsOf kind (take i lines) old → ((p q : ℕ) → (conflicts new p q ≡ true) ↔ ((conflicts old p q ≡ true) ⊎ (line ≡ Conflict kind p q))) → AreConflictsOf kind (take (i + 1) lines) new
conflicts_more kind lines i line old new below e so_far step = λ p q. (
  λ h. elim ((step p q).0 h) [
    | inl before ↦ Contains-more lines i line (Conflict kind p q) below e ((so_far p q).0 before)
    | inr here ↦ rw here at (Contains-last lines i line below e)
  ],
  λ h. elim (Contains-more_cases lines i line (Conflict kind p q) below e h) [
    | inl before ↦ (step p q).1 (inl ((so_far p q).1 before))
    | inr here ↦ (step p q).1 (inr here)
  ],
)
