use Rattle.std.proofs.Common.{get_or, sym, ap, ◌∙◌}
use Rattle.intentions_manager.proofs.Seeing.{seen_there, seen_nowhere}
use Rattle.intentions_manager.proofs.views.seen_at.Goals as goal

pub returns-then-place : goal.returns-then-place
returns-then-place c =
    let views = c.args.views.now.items in
    c.index.ensures ∙ ap (λ n. get_or views n c.index.result.now) c.requires.place.index ∙ seen_there c.args.t c.args.base views c.index.result.now (c.requires.place.there c.if-place.true)

pub returns-else-place : goal.returns-else-place
returns-else-place c =
    sym (seen_nowhere c.args.t c.args.base c.args.views.now.items c.requires.ordered (c.requires.place.elsewhere c.if-place.false))
