-- What t meets that asks for an operation: its mark tells whether the operation is legal, and the mark with it who keeps t from it.
use Rattle.std.proofs.Common.{◌≡◌, ◌↔◌, ℕ, Bool, ◌+◌, ◌-◌, ◌≤◌, true, false, List, [], ◌∷◌, Option, Some, is_some, sym, ap, subst, ◌∙◌}
use Rattle.std.specs.Prelude.{slice_get}
use Rattle.std.proofs.lemmas.Bool.{false_from_ne_true, iff_false}
use Rattle.type_table.specs.Run.{run}
use Rattle.escrow_laws.specs.Marks.{mark_after, is_legal_from, FitsIn}
use Rattle.escrow_laws.specs.Laws.{MarksAreExact, MarksFit, FirmIsLegal}
use Rattle.escrow_laws.specs.declared.bounded.Bounded.{Bounded}
use Rattle.escrow_laws.specs.declared.mark.Mark.{Mark}
use Rattle.escrow_laws.specs.declared.mark.OpenMark.{OpenMark}
use Rattle.object_trait.specs.Meaning.{Meaning, view_of}
use Rattle.object_trait.specs.Steps.{IsLegalFor, stopper}
use Rattle.object_trait.specs.Admissions.{admitted_by, admission_of}
use Rattle.object_trait.specs.declared.admission.Admission.TheVariants as admission
use Rattle.object_trait.proofs.Admissions.{illegal_meets, legal_meets}
use Rattle.escrow_manager.specs.Numeric.{bounds_in, greatest}
use Rattle.escrow_manager.specs.Marks.{IsSmall}
use Rattle.escrow_manager.specs.Kept.{IsKeptInEscrow}
use Rattle.escrow_manager.specs.declared.totals.Totals.{Totals}
use Rattle.escrow_manager.proofs.Keeping.{mark_at, fits-32, view-told, legal-told, small-of, legal-with}

module _ {m : Meaning} {marks : List OpenMark} {totals : Totals} (h : IsKeptInEscrow m marks totals) (exact : MarksAreExact) (fit : MarksFit) (legal : FirmIsLegal) where
  module _ (t : ℕ) (x : Mark) (x_is : x ≡ mark_at m t) where
    -- the number after the mark has 32 bits
    pub mark-fits : FitsIn 4294967295 m.base x
    mark-fits = subst (FitsIn 4294967295 m.base) (sym x_is) (fits-32 h fit legal t)

    module _ (k : ℕ) (b : Bounded) (found : slice_get (bounds_in m.checked) k ≡ Some b) where
      -- with an operation that is legal the mark stays small, and what it is of is legal
      pub small-with : IsLegalFor m t k → IsSmall (greatest m.checked) x b
      small-with here = subst (λ (y : Mark). IsSmall (greatest m.checked) y b) (sym x_is) (small-of h exact fit legal t k b found here)

      pub legal-then : IsLegalFor m t k → is_legal_from (mark_after x b) m.base ≡ true
      legal-then here = subst (λ (y : Mark). is_legal_from (mark_after y b) m.base ≡ true) (sym x_is) (legal-with h exact fit legal t k b found here)

      -- the number after the mark says whether it is
      module _ (n : ℕ) (n_is : n ≡ m.base + x.above - x.fall) (says : Bool) (tells : (says ≡ true) ↔ ((b.low ≤ n) × (n ≤ b.high))) where
        seen : view_of m t ≡ Some n
        seen = view-told h exact legal t ∙ ap (λ (y : Mark). Some (m.base + y.above - y.fall)) (sym x_is) ∙ ap (λ s. Some s) (sym n_is)

        pub says-legal : says ≡ true → IsLegalFor m t k
        says-legal is = (legal-told h t k n b found seen).0 (tells.0 is)

        pub says-illegal : says ≡ false → admission.Illegal ≡ admission_of m t k
        says-illegal isnt =
            let is_legal = is_some (run m.checked.file.table (view_of m t) (k ∷ [])) in
            illegal_meets is_legal (stopper m t k) (false_from_ne_true is_legal (λ can. iff_false tells isnt ((legal-told h t k n b found seen).1 can)))

        -- and what is legal meets who keeps t from it
        pub meets-keeper : says ≡ true → (keeper : Option ℕ) → keeper ≡ stopper m t k → admitted_by keeper ≡ admission_of m t k
        meets-keeper can keeper is =
            ap admitted_by is ∙ legal_meets (is_some (run m.checked.file.table (view_of m t) (k ∷ []))) (stopper m t k) (says-legal can)
