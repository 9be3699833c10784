-- The outcome of a text, line by line.
use Rattle.std.proofs.Common.{◌≡◌, ◌⊎◌, ℕ, ◌+◌, ◌<◌, Bool, true, false, cond, List, [], ◌∷◌, ◌++◌, length, Option, Some, None, Result, Ok, Err, refl, sym, ap, subst, ◌∙◌, inl, inr, arith, append_assoc}
use Rattle.std.specs.List.{slice_get}
use Rattle.std.proofs.lemmas.Bool.{cases_order, cases_eq, cases_lt}
use Rattle.std.proofs.lemmas.List.{append-nil, length-append, take_at}
use Rattle.std.proofs.lemmas.Option.{slice_get_past}
use Rattle.line_text.specs.Text.{TextLine, lines_of}
use Rattle.line_text.specs.Rules.{Rules, items_of}
use Rattle.line_text.specs.LineTests.{fault_of}
use Rattle.line_text.specs.Outcome.{fault_on, or_next, has_ended, first_fault, or_fault, outcome_of, refusal_at, ArePassed, IsRefused, IsUnfinished, IsValue, IsOutcome}
use Rattle.line_text.specs.declared.fault.FaultKind.{FaultKind}
use Rattle.line_text.specs.declared.fault.FaultKind.TheVariants.{Missing}
use Rattle.line_text.specs.declared.fault.TextFault.{TextFault}

-- the element after a front
pub slice_get_at : {X : Type 0} (front : List X) (x : X) (back : List X) → slice_get (front ++ x ∷ back) (length front) ≡ Some x
slice_get_at [] x back = refl
slice_get_at (y ∷ front) x back = slice_get_at front x back

-- the line after a front is judged by what the front says
pub refusal_at_here : {Item : Type 0} (g : Rules Item) (before : List TextLine) (l : TextLine) (after : List TextLine) → refusal_at g (before ++ l ∷ after) (length before) ≡ fault_of g before l
refusal_at_here g before l after = rw (slice_get_at before l after, take_at before (l ∷ after) (length before) refl) refl

-- one more line has passed
pub ArePassed-more : {Item : Type 0} (g : Rules Item) (lines : List TextLine) (n : ℕ) → ArePassed g lines n → refusal_at g lines n ≡ None → ArePassed g lines (n + 1)
ArePassed-more g lines n passed here k below =
    elim (cases_eq k n) [
      | inl e ↦ rw e here
      | inr e ↦ passed k (omega arith)
    ]

-- what is known of a result: it is the value of the lines or their fault
abbrev pub IsJudgement : {Item : Type 0} → Rules Item → List TextLine → Result (List Item) TextFault → Type 0
IsJudgement g lines (Ok items) = IsValue g lines items
IsJudgement g lines (Err f) = IsRefused g lines f ⊎ IsUnfinished g lines f

-- the same before the items are looked at
abbrev IsFound : {Item : Type 0} → Rules Item → List TextLine → Option TextFault → Type 0
IsFound g lines None = ArePassed g lines (length lines) × (has_ended g lines ≡ true)
IsFound g lines (Some f) = IsRefused g lines f ⊎ IsUnfinished g lines f

-- the end of the lines
found_at_end : {Item : Type 0} (g : Rules Item) (lines : List TextLine) (b : Bool) → has_ended g lines ≡ b → ArePassed g lines (length lines) → IsFound g lines (cond b None (Some (fault_on (length lines + 1) Missing)))
found_at_end g lines true e passed = (passed, e)
found_at_end g lines false e passed = inr (record { passed = passed; no_end = e; fault = refl })

-- a refused line, or what follows
found_at_line : {Item : Type 0} (g : Rules Item) (lines : List TextLine) (n : ℕ) (o : Option FaultKind) (next : Option TextFault) → ArePassed g lines n → refusal_at g lines n ≡ o → (o ≡ None → IsFound g lines next) → IsFound g lines (or_next (n + 1) o next)
found_at_line g lines n None next passed here rest = rest refl
found_at_line g lines n (Some kind) next passed here rest = inl (record { place = n; line = refl; before = passed; kind = here })

-- the first fault is the first fault
found : {Item : Type 0} (g : Rules Item) (lines before after : List TextLine) → lines ≡ before ++ after → ArePassed g lines (length before) → IsFound g lines (first_fault g before after)
unfolding first_fault
found g lines before [] e passed =
    let whole : lines ≡ before = e ∙ append-nil before in
    subst (λ (all : List TextLine). IsFound g all (cond (has_ended g before) None (Some (fault_on (length before + 1) Missing)))) (sym whole) (found_at_end g before (has_ended g before) refl (subst (λ (all : List TextLine). ArePassed g all (length before)) whole passed))
found g lines before (l ∷ after) e passed =
    let here : refusal_at g lines (length before) ≡ fault_of g before l = rw e (refusal_at_here g before l after) in
    found_at_line g lines (length before) (fault_of g before l) (first_fault g (before ++ l ∷ []) after) passed here
    (λ none. found g lines (before ++ l ∷ []) after (e ∙ sym (append_assoc before (l ∷ []) after)) (rw length-append (ArePassed-more g lines (length before) passed (here ∙ none))))

-- with the items of the lines
judgement_from : {Item : Type 0} (g : Rules Item) (lines : List TextLine) (o : Option TextFault) → IsFound g lines o → IsJudgement g lines (or_fault o (items_of g lines))
judgement_from g lines None h = record { passed = h.0; ended = h.1; value = refl }
judgement_from g lines (Some f) h = h

-- the outcome of a text is the value or the fault of its lines
pub outcome_is : {Item : Type 0} (g : Rules Item) (text : List ℕ) → IsJudgement g (lines_of text) (outcome_of g text)
unfolding outcome_of
outcome_is g text = judgement_from g (lines_of text) (first_fault g [] (lines_of text)) (found g (lines_of text) [] (lines_of text) refl (λ k below. absurd (omega arith)))

-- ---- a text has one outcome

-- a place at which a line is refused is one of a line
refusal_within : {Item : Type 0} (g : Rules Item) (lines : List TextLine) (n : ℕ) (kind : FaultKind) → refusal_at g lines n ≡ Some kind → n < length lines
refusal_within g lines n kind e =
    elim (cases_lt n (length lines)) [
      | inl within ↦ within
      | inr past ↦ absurd (let none : refusal_at g lines n ≡ None = rw (slice_get_past lines n past) refl in let clash : None ≡ Some kind = sym none ∙ e in cc)
    ]

-- a line that has passed is not refused
not_both : {Item : Type 0} (g : Rules Item) (lines : List TextLine) (n place : ℕ) (kind : FaultKind) → ArePassed g lines n → refusal_at g lines place ≡ Some kind → place < n → ⊥
not_both g lines n place kind passed e below = let clash : None ≡ Some kind = sym (passed place below) ∙ e in cc

-- one line is the first refused one
same_refusal : {Item : Type 0} (g : Rules Item) (lines : List TextLine) (f e : TextFault) (p : IsRefused g lines f) (q : IsRefused g lines e) → f ≡ e
same_refusal g lines f e p q =
    elim (cases_order p.place q.place) [
      | inl same ↦
          let kinds : Some f.kind ≡ Some e.kind = sym p.kind ∙ ap (refusal_at g lines) same ∙ q.kind in
          let kind : f.kind ≡ e.kind = cc in
          let line : f.line ≡ e.line = p.line ∙ ap (λ (n : ℕ). n + 1) same ∙ sym q.line in
          λ i. record { line = line i; kind = kind i }
      | inr (inl below) ↦ absurd (not_both g lines q.place p.place f.kind q.before p.kind below)
      | inr (inr above) ↦ absurd (not_both g lines p.place q.place e.kind p.before q.kind above)
    ]

-- there is one fault
same_fault : {Item : Type 0} (g : Rules Item) (lines : List TextLine) (f e : TextFault) → IsRefused g lines f ⊎ IsUnfinished g lines f → IsRefused g lines e ⊎ IsUnfinished g lines e → f ≡ e
same_fault g lines f e (inl p) (inl q) = same_refusal g lines f e p q
same_fault g lines f e (inl p) (inr q) = absurd (not_both g lines (length lines) p.place f.kind q.passed p.kind (refusal_within g lines p.place f.kind p.kind))
same_fault g lines f e (inr p) (inl q) = absurd (not_both g lines (length lines) q.place e.kind p.passed q.kind (refusal_within g lines q.place e.kind q.kind))
same_fault g lines f e (inr p) (inr q) = p.fault ∙ sym q.fault

-- a value leaves no fault
no_fault_with_value : {Item : Type 0} (g : Rules Item) (lines : List TextLine) (items : List Item) (f : TextFault) → IsValue g lines items → IsRefused g lines f ⊎ IsUnfinished g lines f → ⊥
no_fault_with_value g lines items f v (inl p) = not_both g lines (length lines) p.place f.kind v.passed p.kind (refusal_within g lines p.place f.kind p.kind)
no_fault_with_value g lines items f v (inr p) = let clash : true ≡ false = sym v.ended ∙ p.no_end in cc

-- lines have one judgement
pub same_judgement : {Item : Type 0} (g : Rules Item) (lines : List TextLine) (r s : Result (List Item) TextFault) → IsJudgement g lines r → IsJudgement g lines s → r ≡ s
same_judgement g lines (Ok xs) (Ok ys) p q = ap Ok (p.value ∙ sym q.value)
same_judgement g lines (Ok xs) (Err e) p q = absurd (no_fault_with_value g lines xs e p q)
same_judgement g lines (Err f) (Ok ys) p q = absurd (no_fault_with_value g lines ys f q p)
same_judgement g lines (Err f) (Err e) p q = ap Err (same_fault g lines f e p q)

-- what is the value or the fault of a text's lines is its outcome
pub outcome_from : {Item : Type 0} (g : Rules Item) (text : List ℕ) (r : Result (List Item) TextFault) → IsJudgement g (lines_of text) r → outcome_of g text ≡ r
outcome_from g text r h = same_judgement g (lines_of text) (outcome_of g text) r (outcome_is g text) h

-- when a text has a fault and when a value
pub IsOutcome-always : {Item : Type 0} (g : Rules Item) (text : List ℕ) → IsOutcome g text
IsOutcome-always g text = record {
  fault = λ f. (λ e. subst (IsJudgement g (lines_of text)) e (outcome_is g text), λ h. outcome_from g text (Err f) h);
  value = λ items. (λ e. subst (IsJudgement g (lines_of text)) e (outcome_is g text), λ h. outcome_from g text (Ok items) h);
}
