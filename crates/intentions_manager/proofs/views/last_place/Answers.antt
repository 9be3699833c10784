use Rattle.std.proofs.Common.{◌∙◌}
use Rattle.intentions_manager.proofs.Places.{found-own, found-before}
use Rattle.intentions_manager.proofs.views.last_place.Goals as goal

pub returns-then-last-t : goal.returns-then-last-t
returns-then-last-t c =
    let views = c.args.views.now in
    found-before c.args.t c.deref.result.now views.items c.in_ok-last.last.now c.len.result c.deref.ensures.value c.in_ok-last.ensures.value c.requires (c.len.ensures ∙ views.ok.0) c.if-last-t.true

pub returns-then-last-t-2 : goal.returns-then-last-t-2
returns-then-last-t-2 c =
    let views = c.args.views.now in
    found-own c.args.t c.deref.result.now views.items c.in_ok-last.last.now c.len-then-last-t-2.result c.deref.ensures.value c.in_ok-last.ensures.value c.requires (c.len-then-last-t-2.ensures ∙ views.ok.0) c.if-last-t-2.true
