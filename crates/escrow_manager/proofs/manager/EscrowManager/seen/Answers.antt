use Rattle.std.proofs.Common.{◌≡◌, ◌+◌, ◌-◌, Some, sym, ap, subst, ◌∙◌, arith}
use Rattle.escrow_laws.specs.Marks.{FitsIn}
use Rattle.escrow_laws.specs.declared.mark.Mark.{Mark}
use Rattle.object_trait.specs.Meaning.{Meaning}
use Rattle.escrow_manager.proofs.Keeping.{meant, mark_at, fits-of, fits-32, view-told}
use Rattle.escrow_manager.proofs.manager.EscrowManager.seen.Goals as goal

pub number_after-requires : goal.number_after-requires
number_after-requires c =
    let exact : c.mark_of.result ≡ mark_at (meant c.self.inside) c.args.t = c.mark_of.ensures ∙ ap (λ (m : Meaning). mark_at m c.args.t) (sym c.self.view_is) in
    subst (FitsIn 4294967295 c.self.inside.base) (sym exact) (fits-32 c.self.invariant c.marks_fit.ensures c.firm_is_legal.ensures c.args.t)

pub returns-clause-exact : goal.returns-clause-exact
returns-clause-exact c =
    let exact : c.mark_of.result ≡ mark_at (meant c.self.inside) c.args.t = c.mark_of.ensures ∙ ap (λ (m : Meaning). mark_at m c.args.t) (sym c.self.view_is) in
    rw (← c.self.view_is)
    (view-told c.self.invariant c.marks_are_exact.ensures c.firm_is_legal.ensures c.args.t
    ∙ ap (λ (x : Mark). Some (c.self.inside.base + x.above - x.fall)) (sym exact) ∙ ap (λ n. Some n) (sym c.number_after.ensures))

pub returns-clause-inside : goal.returns-clause-inside
returns-clause-inside c =
    let exact : c.mark_of.result ≡ mark_at (meant c.self.inside) c.args.t = c.mark_of.ensures ∙ ap (λ (m : Meaning). mark_at m c.args.t) (sym c.self.view_is) in
    let fits = fits-of c.self.invariant c.marks_fit.ensures c.firm_is_legal.ensures c.args.t in
    let up = fits.up in
    let end = fits.end in
    let above = ap (λ (x : Mark). x.above) exact in
    let fall = ap (λ (x : Mark). x.fall) exact in
    let number = c.number_after.ensures in
    let fit = c.self.invariant.base_fits in
    rw (← c.self.view_is) (omega (arith, up, end, above, fall, number, fit))
