use Rattle.std.proofs.Common.{get_or, sym, ap, subst, ◌∙◌}
use Rattle.escrow_manager.specs.Marks.{IsMarkAt}
use Rattle.escrow_laws.specs.declared.mark.OpenMark.{OpenMark}
use Rattle.escrow_manager.proofs.Seeing.{seen_there, seen_nowhere}
use Rattle.escrow_manager.proofs.marks.mark_at.Goals as goal

pub returns-then-is_at : goal.returns-then-is_at
returns-then-is_at c =
    let t = c.args.t in
    let marks = c.args.marks.now.items in
    let here = subst (λ n. IsMarkAt t n marks) c.requires.place (c.is_at.ensures.there c.if-is_at.true) in
    ap (λ (o : OpenMark). o.mark) (c.index.ensures ∙ ap (λ n. get_or marks n c.index.result.now) c.requires.place) ∙ seen_there t c.args.top marks c.index.result.now here

pub returns-else-is_at : goal.returns-else-is_at
returns-else-is_at c =
    let t = c.args.t in
    let marks = c.args.marks.now.items in
    c.unmarked.ensures ∙ sym (seen_nowhere t c.args.top marks c.requires.ordered (λ here. c.is_at.ensures.elsewhere c.if-is_at.false (subst (λ n. IsMarkAt t n marks) (sym c.requires.place) here)))
