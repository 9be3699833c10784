use Rattle.std.proofs.Common.{◌∙◌}
use Rattle.escrow_manager.proofs.Places.{found-own, found-before}
use Rattle.escrow_manager.proofs.marks.last_place.Goals as goal

pub returns-then-last-t : goal.returns-then-last-t
returns-then-last-t c =
    let marks = c.args.marks.now in
    found-before c.args.t c.deref.result.now marks.items c.in_ok-last.last.now c.len.result c.deref.ensures.value c.in_ok-last.ensures.value c.requires (c.len.ensures ∙ marks.ok.0) c.if-last-t.true

pub returns-then-last-t-2 : goal.returns-then-last-t-2
returns-then-last-t-2 c =
    let marks = c.args.marks.now in
    found-own c.args.t c.deref.result.now marks.items c.in_ok-last.last.now c.len-then-last-t-2.result c.deref.ensures.value c.in_ok-last.ensures.value c.requires (c.len-then-last-t-2.ensures ∙ marks.ok.0) c.if-last-t-2.true
