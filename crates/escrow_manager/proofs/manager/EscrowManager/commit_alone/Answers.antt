use Rattle.std.proofs.Common.{sym, ap, subst, ◌∙◌}
use Rattle.object_trait.specs.Meaning.{Meaning}
use Rattle.object_trait.specs.Steps.{MayApply, applied, IsCommit}
use Rattle.escrow_manager.proofs.Keeping.{meant, op-found}
use Rattle.escrow_manager.proofs.Idling.{with_base, moved_base, alone-commits, alone-kept}
use Rattle.escrow_manager.proofs.manager.EscrowManager.commit_alone.Goals as goal

pub invariant_of-self : goal.invariant_of-self
invariant_of-self c =
    let inside = c.self.inside in
    let op = c.bounded-op.result in
    let idle = ap (λ (m : Meaning). m.log) c.self.view_is ∙ c.requires.idle in
    let found = op-found inside.checked.value c.deref.result.now c.args.k op c.deref.ensures c.bounded-op.ensures in
    let may = subst (λ (m : Meaning). MayApply m c.args.t c.args.k) (sym c.self.view_is) c.requires.may in
    alone-kept c.self.invariant idle c.args.t c.args.k op found may

pub returns : goal.returns
returns c =
    let inside = c.self.inside in
    let op = c.bounded-op.result in
    let idle = ap (λ (m : Meaning). m.log) c.self.view_is ∙ c.requires.idle in
    let found = op-found inside.checked.value c.deref.result.now c.args.k op c.deref.ensures c.bounded-op.ensures in
    let may = subst (λ (m : Meaning). MayApply m c.args.t c.args.k) (sym c.self.view_is) c.requires.may in
    subst (λ (m : Meaning). IsCommit (applied m c.args.t c.args.k) c.args.t (with_base (meant inside) (moved_base (meant inside) op))) c.self.view_is
    (alone-commits c.self.invariant idle c.args.t c.args.k op found may)
