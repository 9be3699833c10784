use Rattle.std.proofs.Common.{ap, ◌∙◌}
use Rattle.std.specs.List.{remove}
use Rattle.intentions_manager.specs.Views.{view_owner}
use Rattle.object_trait.proofs.Rows.{drop_there, drop_nowhere}
use Rattle.intentions_manager.proofs.views.drop_view.Goals as goal

pub returns-then-place : goal.returns-then-place
returns-then-place c =
    let views = c.args.views.now.items in
    c.remove.ensures.items ∙ ap (remove views) c.requires.place.index ∙ drop_there view_owner c.args.t views c.requires.ordered (c.requires.place.there c.if-place.true)

pub returns-else-place : goal.returns-else-place
returns-else-place c =
    drop_nowhere view_owner c.args.t c.args.views.now.items c.requires.ordered (c.requires.place.elsewhere c.if-place.false)
