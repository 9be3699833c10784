use Rattle.std.proofs.Common.{◌≡◌, ◌+◌, ◌-◌, Some, sym, ap, subst, ◌∙◌}
use Rattle.std.specs.Prelude.{slice_get}
use Rattle.object_trait.specs.Meaning.{Meaning}
use Rattle.object_trait.specs.Steps.{IsLegalFor}
use Rattle.escrow_laws.specs.Marks.{FitsIn}
use Rattle.escrow_manager.specs.Numeric.{bounds_in}
use Rattle.escrow_manager.specs.Kept.{IsKeptInEscrow}
use Rattle.escrow_manager.proofs.Keeping.{op-found}
use Rattle.escrow_manager.proofs.Admitting.{mark-fits, small-with, legal-then, says-legal, says-illegal, meets-keeper}
use Rattle.escrow_manager.proofs.manager.EscrowManagerRecovery.admission.Goals as goal
use Rattle.escrow_manager.proofs.manager.EscrowManagerRecovery.admission.Goals.{After-mark_of-old, After-is_legal_at}

-- what the manager keeps, the bounds of k in it, and the number that t sees
kept : (c : After-mark_of-old) → IsKeptInEscrow c.args.self.now c.self.inside.marks.items c.self.inside.totals
kept c = subst (λ (m : Meaning). IsKeptInEscrow m c.self.inside.marks.items c.self.inside.totals) c.self.view_is c.self.invariant

found : (c : After-mark_of-old) → slice_get (bounds_in c.args.self.now.checked) c.args.k ≡ Some c.bounded-op.result
found c = op-found c.args.self.now.checked c.deref.result.now c.args.k c.bounded-op.result (c.deref.ensures ∙ ap (λ (m : Meaning). m.checked) c.self.view_is) c.bounded-op.ensures

number : (c : After-is_legal_at) → c.number_after-number.result ≡ c.args.self.now.base + c.mark_of-old.result.above - c.mark_of-old.result.fall
number c = c.number_after-number.ensures ∙ ap (λ (m : Meaning). m.base + c.mark_of-old.result.above - c.mark_of-old.result.fall) c.self.view_is

pub number_after-number-requires : goal.number_after-number-requires
number_after-number-requires c =
    subst (λ (m : Meaning). FitsIn 4294967295 m.base c.mark_of-old.result) (sym c.self.view_is)
    (mark-fits (kept c) c.marks_are_exact.ensures c.marks_fit.ensures c.firm_is_legal.ensures c.args.t c.mark_of-old.result c.mark_of-old.ensures)

pub returns-then-not-is_legal_at : goal.returns-then-not-is_legal_at
returns-then-not-is_legal_at c =
    says-illegal (kept c.before.before.before) c.marks_are_exact.ensures c.marks_fit.ensures c.firm_is_legal.ensures c.args.t c.mark_of-old.result c.mark_of-old.ensures
    c.args.k c.bounded-op.result (found c.before.before.before) c.number_after-number.result (number c.before) c.is_legal_at.result c.is_legal_at.ensures c.if-not-is_legal_at.true

-- what passed the test is legal
legal : (c : goal.Else-not-is_legal_at) → IsLegalFor c.args.self.now c.args.t c.args.k
legal c =
    says-legal (kept c.before.before.before) c.marks_are_exact.ensures c.marks_fit.ensures c.firm_is_legal.ensures c.args.t c.mark_of-old.result c.mark_of-old.ensures
    c.args.k c.bounded-op.result (found c.before.before.before) c.number_after-number.result (number c.before) c.is_legal_at.result c.is_legal_at.ensures c.if-not-is_legal_at.false

pub keeper_of-requires-clause-small : goal.keeper_of-requires-clause-small
keeper_of-requires-clause-small c =
    small-with (kept c.before.before.before) c.marks_are_exact.ensures c.marks_fit.ensures c.firm_is_legal.ensures c.args.t c.mark_of-old.result c.mark_of-old.ensures
    c.args.k c.bounded-op.result (found c.before.before.before) (legal c)

pub keeper_of-requires-clause-legal : goal.keeper_of-requires-clause-legal
keeper_of-requires-clause-legal c =
    legal-then (kept c.before.before.before) c.marks_are_exact.ensures c.marks_fit.ensures c.firm_is_legal.ensures c.args.t c.mark_of-old.result c.mark_of-old.ensures
    c.args.k c.bounded-op.result (found c.before.before.before) (legal c)

pub returns : goal.returns
returns c =
    c.admitted_by.ensures
    ∙ meets-keeper (kept c.before.before.before.before.before) c.marks_are_exact.ensures c.marks_fit.ensures c.firm_is_legal.ensures c.args.t c.mark_of-old.result c.mark_of-old.ensures
    c.args.k c.bounded-op.result (found c.before.before.before.before.before) c.number_after-number.result (number c.before.before.before) c.is_legal_at.result c.is_legal_at.ensures
    c.if-not-is_legal_at.false c.keeper_of.result (c.keeper_of.ensures c.args.k (found c.before.before.before.before.before))
