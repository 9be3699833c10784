-- The states and pairs of `reach` and `equi` lines, as lines are read.
use Rattle.std.proofs.Common.{◌≡◌, ℕ, suc, ◌+◌, ◌<◌, ◌⊎◌, ◌↔◌, Bool, true, false, eqb, List, [], ◌∷◌, length, take, get_or, replicate, Contains, refl, sym, ap, ◌∙◌, inl, inr, arith}
use Rattle.std.specs.List.{list_any}
use Rattle.std.proofs.lemmas.List.Folds.{list_any_at}
use Rattle.std.proofs.lemmas.Bool.{false≢true, eqb-true, eq-eqb, cases_lt}
use Rattle.std.proofs.lemmas.List.{get_or_past, length-replicate}
use Rattle.type_table.specs.StateSet.{has}
use Rattle.equi_cert.specs.Relation.{relates}
use Rattle.type_text.specs.Reach.{is_reach}
use Rattle.type_text.specs.declared.type_line.TypeLine.{TypeLine}
use Rattle.type_text.specs.declared.type_line.TypeLine.TheVariants.{TypeName, States, Initial, Operation, Step, Reach, Equi, Conflict, End}
use Rattle.type_text.proofs.Members.{Contains-more, Contains-last, Contains-more_cases}

-- the members are those of the `reach` lines
abbrev pub AreMembersOf : List TypeLine → List Bool → Type 0
AreMembersOf lines members = (s : ℕ) → (has members s ≡ true) ↔ Contains lines (Reach s)

-- the pairs are those of the `equi` lines and the equal ones
abbrev pub ArePairsOf : ℕ → List TypeLine → List (List Bool) → Type 0
ArePairsOf states lines rows = (s t : ℕ) → s < states → t < states → (relates rows s t ≡ true) ↔ ((s ≡ t) ⊎ Contains lines (Equi s t))

-- one more line
pub members_more : (lines : List TypeLine) (i : ℕ) (line : TypeLine) (old new : List Bool) → i < length lines → line ≡ get_or lines i line →
    AreMembersOf (take i lines) old → ((s : ℕ) → (has new s ≡ true) ↔ ((has old s ≡ true) ⊎ (line ≡ Reach s))) → AreMembersOf (take (i + 1) lines) new
members_more lines i line old new below e so_far step = λ s. (
  λ h. elim ((step s).0 h) [
    | inl before ↦ Contains-more lines i line (Reach s) below e ((so_far s).0 before)
    | inr here ↦ rw here at (Contains-last lines i line below e)
  ],
  λ h. elim (Contains-more_cases lines i line (Reach s) below e h) [
    | inl before ↦ (step s).1 (inl ((so_far s).1 before))
    | inr here ↦ (step s).1 (inr here)
  ],
)

pub pairs_more : (states : ℕ) (lines : List TypeLine) (i : ℕ) (line : TypeLine) (old new : List (List Bool)) → i < length lines → line ≡ get_or lines i line →
    ArePairsOf states (take i lines) old → ((s t : ℕ) → (relates new s t ≡ true) ↔ ((relates old s t ≡ true) ⊎ (line ≡ Equi s t))) → ArePairsOf states (take (i + 1) lines) new
pairs_more states lines i line old new below e so_far step = λ s t s_in t_in. (
  λ h. elim ((step s t).0 h) [
    | inl before ↦ elim ((so_far s t s_in t_in).0 before) [
      | inl same ↦ inl same
      | inr among ↦ inr (Contains-more lines i line (Equi s t) below e among)
    ]
    | inr here ↦ inr (rw here at (Contains-last lines i line below e))
  ],
  λ h. elim h [
    | inl same ↦ (step s t).1 (inl ((so_far s t s_in t_in).1 (inl same)))
    | inr among ↦ elim (Contains-more_cases lines i line (Equi s t) below e among) [
      | inl before ↦ (step s t).1 (inl ((so_far s t s_in t_in).1 (inr before)))
      | inr here ↦ (step s t).1 (inr here)
    ]
  ],
)

-- no line yet: the equal pairs
pub pairs_none : (states : ℕ) (rows : List (List Bool)) → ((s t : ℕ) → s < states → t < states → relates rows s t ≡ eqb s t) → ArePairsOf states [] rows
pairs_none states rows equal = λ s t s_in t_in. (
  λ h. inl (eqb-true s t (sym (equal s t s_in t_in) ∙ h)),
  λ h. elim h [
    | inl same ↦ equal s t s_in t_in ∙ eq-eqb s t same
    | inr among ↦ absurd (omega (arith, among.1))
  ],
)

-- one line in front
behind_one : (line : TypeLine) (lines : List TypeLine) → ((s : ℕ) × Contains lines (Reach s)) → (s : ℕ) × Contains (line ∷ lines) (Reach s)
behind_one line lines found = (found.0, (suc found.1.0, omega (arith, found.1.1), found.1.2))

-- a `reach` line is among lines that have one
pub some_reach : (lines : List TypeLine) → list_any is_reach lines ≡ true → (s : ℕ) × Contains lines (Reach s)
some_reach [] h = absurd (false≢true h)
some_reach (Reach s ∷ lines) h = (s, (0, omega arith, refl))
some_reach (TypeName name ∷ lines) h = behind_one (TypeName name) lines (some_reach lines h)
some_reach (States states ∷ lines) h = behind_one (States states) lines (some_reach lines h)
some_reach (Initial s ∷ lines) h = behind_one (Initial s) lines (some_reach lines h)
some_reach (Operation op ∷ lines) h = behind_one (Operation op) lines (some_reach lines h)
some_reach (Step s k t ∷ lines) h = behind_one (Step s k t) lines (some_reach lines h)
some_reach (Equi s t ∷ lines) h = behind_one (Equi s t) lines (some_reach lines h)
some_reach (Conflict kind p q ∷ lines) h = behind_one (Conflict kind p q) lines (some_reach lines h)
some_reach (End ∷ lines) h = behind_one End lines (some_reach lines h)

-- none is among lines that have none
pub no_reach : (lines : List TypeLine) → list_any is_reach lines ≡ false → (s : ℕ) → Contains lines (Reach s) → ⊥
no_reach lines none s h = false≢true (sym none ∙ list_any_at is_reach lines h.0 (Reach s) h.1 (ap is_reach h.2))

-- a set with a member isn't empty
pub some_member : (members : List Bool) (s : ℕ) → s < length members → has members s ≡ true → list_any (λ member. member) members ≡ true
some_member members s below h = list_any_at (λ member. member) members s false below h

-- a member of the set of all states is one of them
pub all_below : (n s : ℕ) → has (replicate n true) s ≡ true → s < n
all_below n s h =
    elim (cases_lt s n) [
      | inl below ↦ below
      | inr past ↦ absurd (false≢true (sym (get_or_past (replicate n true) s false (omega (arith, length-replicate n true))) ∙ h))
    ]
