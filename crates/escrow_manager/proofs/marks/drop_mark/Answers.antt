use Rattle.std.proofs.Common.{sym, ap, subst, ◌∙◌}
use Rattle.std.specs.List.{remove}
use Rattle.escrow_manager.specs.Marks.{mark_owner, IsMarkAt}
use Rattle.object_trait.proofs.Rows.{drop_there, drop_nowhere}
use Rattle.escrow_manager.proofs.marks.drop_mark.Goals as goal

pub returns-then-is_at : goal.returns-then-is_at
returns-then-is_at c =
    let t = c.args.t in
    let marks = c.args.marks.now.items in
    c.remove.ensures.items ∙ ap (remove marks) c.requires.place
    ∙ drop_there mark_owner t marks c.requires.ordered (subst (λ n. IsMarkAt t n marks) c.requires.place (c.is_at.ensures.there c.if-is_at.true))

pub returns-else-is_at : goal.returns-else-is_at
returns-else-is_at c =
    let t = c.args.t in
    let marks = c.args.marks.now.items in
    drop_nowhere mark_owner t marks c.requires.ordered (λ here. c.is_at.ensures.elsewhere c.if-is_at.false (subst (λ n. IsMarkAt t n marks) (sym c.requires.place) here))
