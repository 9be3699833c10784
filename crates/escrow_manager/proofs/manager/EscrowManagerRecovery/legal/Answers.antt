use Rattle.std.proofs.Common.{◌≡◌, Some, ap, ◌∙◌}
use Rattle.std.specs.Prelude.{slice_get}
use Rattle.escrow_laws.specs.declared.bounded.Bounded.{Bounded}
use Rattle.table_checker.specs.Checked.{Checked}
use Rattle.object_trait.specs.Meaning.{Meaning, view_of}
use Rattle.escrow_manager.specs.Numeric.{bounds_in}
use Rattle.escrow_manager.proofs.Keeping.{meant, op-found, legal-told}
use Rattle.escrow_manager.proofs.manager.EscrowManagerRecovery.legal.Goals as goal

pub returns : goal.returns
returns c =
    let inside = c.self.inside in
    let checked : Checked = inside.checked.value in
    let op : Bounded = c.bounded-op.result in
    let found : slice_get (bounds_in checked) c.args.k ≡ Some op =
    op-found checked c.deref.result.now c.args.k c.bounded-op.result c.deref.ensures c.bounded-op.ensures in
    let seen : view_of (meant inside) c.args.t ≡ Some c.seen-number.result = ap (λ (m : Meaning). view_of m c.args.t) c.self.view_is ∙ c.seen-number.ensures.exact in
    let told = legal-told c.self.invariant c.args.t c.args.k c.seen-number.result op found seen in
    rw (← c.self.view_is) (λ says. told.0 (c.is_legal_at.ensures.0 says), λ legal. c.is_legal_at.ensures.1 (told.1 legal))
