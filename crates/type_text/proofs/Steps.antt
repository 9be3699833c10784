-- The entries of a table, as lines are read.
use Rattle.std.proofs.Common.{◌≡◌, ℕ, ◌+◌, ◌*◌, ◌<◌, ◌↔◌, List, [], length, take, get_or, set, replicate, Option, Some, None, Contains, refl, sym, ap, ◌∙◌, inl, inr, arith}
use Rattle.std.proofs.lemmas.Bool.{cases_eq, cases_lt}
use Rattle.std.proofs.lemmas.List.{get_or-set_same, get_or-set_other, get_or-replicate, get_or_past, length-replicate}
use Rattle.std.proofs.lemmas.Nat.{same_from_place}
use Rattle.type_text.proofs.Members.{Contains-more, Contains-last, Contains-more_cases, Contains-front, at-place}
use Rattle.type_text.specs.declared.type_line.TypeLine.{TypeLine}
use Rattle.type_text.specs.declared.type_line.TypeLine.TheVariants.{TypeName, States, Initial, Operation, Step, Reach, Equi, Conflict, End}

-- the entry of a state and an operation leads where the lines say
abbrev pub AreStepsOf : ℕ → List TypeLine → List (Option ℕ) → Type 0
AreStepsOf ops lines steps = (s k t : ℕ) → k < ops → (get_or steps (s * ops + k) None ≡ Some t) ↔ Contains lines (Step s k t)

-- no entry leads anywhere
nowhere : (n i t : ℕ) → get_or (replicate n None) i None ≡ Some t → ⊥
nowhere n i t e =
    let empty : List (Option ℕ) = replicate n None in
    elim (cases_lt i n) [
      | inl inside ↦ let none : get_or empty i None ≡ None = get_or-replicate n i None None inside in cc
      | inr past ↦ let none : get_or empty i None ≡ None = get_or_past empty i None (omega (arith, length-replicate {A = Option ℕ} n None)) in cc
    ]

-- an entry of none is none
pub none_at : (n i : ℕ) → let empty : List (Option ℕ) = replicate n None in get_or empty i None ≡ None
none_at n i =
    let empty : List (Option ℕ) = replicate n None in
    elim (cases_lt i n) [
      | inl inside ↦ get_or-replicate n i None None inside
      | inr past ↦ get_or_past empty i None (omega (arith, length-replicate {A = Option ℕ} n None))
    ]

-- no step where there is no line
pub steps_none : (ops n : ℕ) (steps : List (Option ℕ)) → steps ≡ replicate n None → AreStepsOf ops [] steps
steps_none ops n steps empty = λ s k t below. (
  λ e. absurd (nowhere n (s * ops + k) t (rw empty at e)),
  λ h. absurd (omega (arith, h.1)),
)

-- a line of another section
pub steps_other : (ops i : ℕ) (lines : List TypeLine) (line : TypeLine) (steps : List (Option ℕ)) → i < length lines → line ≡ get_or lines i line →
    ((s k t : ℕ) → line ≡ Step s k t → ⊥) → AreStepsOf ops (take i lines) steps → AreStepsOf ops (take (i + 1) lines) steps
steps_other ops i lines line steps below e other so_far = λ s k t k_in. (
  λ h. Contains-more lines i line (Step s k t) below e ((so_far s k t k_in).0 h),
  λ h. elim (Contains-more_cases lines i line (Step s k t) below e h) [
    | inl before ↦ (so_far s k t k_in).1 before
    | inr here ↦ absurd (other s k t here)
  ],
)

-- a `step` line, where no line says another next state of the same state and operation
pub steps_step : (ops i a b u : ℕ) (lines : List TypeLine) (steps : List (Option ℕ)) → i < length lines → Step a b u ≡ get_or lines i (Step a b u) →
    b < ops → a * ops + b < length steps → ((t : ℕ) → Contains lines (Step a b t) → t ≡ u) →
    AreStepsOf ops (take i lines) steps → AreStepsOf ops (take (i + 1) lines) (set steps (a * ops + b) (Some u))
steps_step ops i a b u lines steps below e b_in place once so_far = λ s k t k_in.
    elim (cases_eq (s * ops + k) (a * ops + b)) [
      | inl same ↦ let where_it_is = same_from_place s k a b ops k_in b_in same in
          let entry : get_or (set steps (a * ops + b) (Some u)) (s * ops + k) None ≡ Some u = rw same (get_or-set_same steps (a * ops + b) (Some u) None place) in (
            λ h. let t_is : t ≡ u = cc in rw (where_it_is.0, where_it_is.1, t_is) (Contains-last lines i (Step a b u) below e),
            λ h. let t_is : t ≡ u = once t (Contains-front lines (i + 1) (Step a b t) (rw (where_it_is.0, where_it_is.1) at h)) in entry ∙ ap Some (sym t_is),
          )
      | inr other ↦ let entry : get_or (set steps (a * ops + b) (Some u)) (s * ops + k) None ≡ get_or steps (s * ops + k) None = get_or-set_other steps (a * ops + b) (s * ops + k) (Some u) None other in (
        λ h. Contains-more lines i (Step a b u) (Step s k t) below e ((so_far s k t k_in).0 (sym entry ∙ h)),
        λ h. elim (Contains-more_cases lines i (Step a b u) (Step s k t) below e h) [
          | inl before ↦ entry ∙ (so_far s k t k_in).1 before
          | inr here ↦ let s_is : a ≡ s = cc in let k_is : b ≡ k = cc in absurd (other (rw (s_is, k_is) refl))
        ],
      )
    ]

-- one more line, whatever it says
pub steps_more : (ops i : ℕ) (lines : List TypeLine) (line : TypeLine) (old new : List (Option ℕ)) → i < length lines → line ≡ get_or lines i line →
    ((s k t : ℕ) → Contains lines (Step s k t) → (k < ops) × (s * ops + k < length old)) →
    ((s k t u : ℕ) → Contains lines (Step s k t) → Contains lines (Step s k u) → t ≡ u) →
    ((s k t : ℕ) → line ≡ Step s k t → new ≡ set old (s * ops + k) (Some t)) →
    (((s k t : ℕ) → line ≡ Step s k t → ⊥) → new ≡ old) →
    AreStepsOf ops (take i lines) old → AreStepsOf ops (take (i + 1) lines) new
steps_more ops i lines (Step a b u) old new below e inside once step other so_far =
    let here : Contains lines (Step a b u) = at-place lines i (Step a b u) below e in
    rw (step a b u refl) (steps_step ops i a b u lines old below e ((inside a b u here).0) ((inside a b u here).1) (λ t h. once a b t u h here) so_far)
steps_more ops i lines (TypeName name) old new below e inside once step other so_far = let no_step = λ (s k t : ℕ) (h : TypeName name ≡ Step s k t). absurd cc in rw (other no_step) (steps_other ops i lines (TypeName name) old below e no_step so_far)
steps_more ops i lines (States states) old new below e inside once step other so_far = let no_step = λ (s k t : ℕ) (h : States states ≡ Step s k t). absurd cc in rw (other no_step) (steps_other ops i lines (States states) old below e no_step so_far)
steps_more ops i lines (Initial first) old new below e inside once step other so_far = let no_step = λ (s k t : ℕ) (h : Initial first ≡ Step s k t). absurd cc in rw (other no_step) (steps_other ops i lines (Initial first) old below e no_step so_far)
steps_more ops i lines (Operation op) old new below e inside once step other so_far = let no_step = λ (s k t : ℕ) (h : Operation op ≡ Step s k t). absurd cc in rw (other no_step) (steps_other ops i lines (Operation op) old below e no_step so_far)
steps_more ops i lines (Reach r) old new below e inside once step other so_far = let no_step = λ (s k t : ℕ) (h : Reach r ≡ Step s k t). absurd cc in rw (other no_step) (steps_other ops i lines (Reach r) old below e no_step so_far)
steps_more ops i lines (Equi a b) old new below e inside once step other so_far = let no_step = λ (s k t : ℕ) (h : Equi a b ≡ Step s k t). absurd cc in rw (other no_step) (steps_other ops i lines (Equi a b) old below e no_step so_far)
steps_more ops i lines (Conflict kind p q) old new below e inside once step other so_far = let no_step = λ (s k t : ℕ) (h : Conflict kind p q ≡ Step s k t). absurd cc in rw (other no_step) (steps_other ops i lines (Conflict kind p q) old below e no_step so_far)
steps_more ops i lines End old new below e inside once step other so_far = let no_step = λ (s k t : ℕ) (h : End ≡ Step s k t). absurd cc in rw (other no_step) (steps_other ops i lines End old below e no_step so_far)
