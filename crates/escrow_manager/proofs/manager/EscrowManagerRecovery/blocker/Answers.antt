use Rattle.std.proofs.Common.{◌≡◌, Some, ap, subst, ◌∙◌}
use Rattle.std.specs.Prelude.{slice_get}
use Rattle.object_trait.specs.Meaning.{Meaning}
use Rattle.escrow_manager.specs.Numeric.{bounds_in}
use Rattle.escrow_manager.specs.Kept.{IsKeptInEscrow}
use Rattle.escrow_manager.proofs.Keeping.{op-found}
use Rattle.escrow_manager.proofs.Admitting.{small-with, legal-then}
use Rattle.escrow_manager.proofs.manager.EscrowManagerRecovery.blocker.Goals as goal

-- what the manager keeps, and the bounds of k in it
kept : (c : goal.After-mark_of) → IsKeptInEscrow c.args.self.now c.self.inside.marks.items c.self.inside.totals
kept c = subst (λ (m : Meaning). IsKeptInEscrow m c.self.inside.marks.items c.self.inside.totals) c.self.view_is c.self.invariant

found : (c : goal.After-mark_of) → slice_get (bounds_in c.args.self.now.checked) c.args.k ≡ Some c.bounded-op.result
found c = op-found c.args.self.now.checked c.deref.result.now c.args.k c.bounded-op.result (c.deref.ensures ∙ ap (λ (m : Meaning). m.checked) c.self.view_is) c.bounded-op.ensures

pub keeper_of-requires-clause-small : goal.keeper_of-requires-clause-small
keeper_of-requires-clause-small c =
    small-with (kept c) c.marks_are_exact.ensures c.marks_fit.ensures c.firm_is_legal.ensures c.args.t c.mark_of.result c.mark_of.ensures c.args.k c.bounded-op.result (found c) c.requires.legal

pub keeper_of-requires-clause-legal : goal.keeper_of-requires-clause-legal
keeper_of-requires-clause-legal c =
    legal-then (kept c) c.marks_are_exact.ensures c.marks_fit.ensures c.firm_is_legal.ensures c.args.t c.mark_of.result c.mark_of.ensures c.args.k c.bounded-op.result (found c) c.requires.legal
