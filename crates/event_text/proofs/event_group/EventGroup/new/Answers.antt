use Rattle.std.proofs.Common.{[], sym, ◌∙◌}
use Rattle.event_text.proofs.Groups.{is-group, lines-of, no-lines}
use Rattle.event_text.proofs.event_group.EventGroup.new.Goals as goal

pub invariant_of-result : goal.invariant_of-result
invariant_of-result c = is-group c.new.result.items [] (c.new.ensures.items ∙ sym no-lines) tt

pub returns : goal.returns
returns c = (lines-of c.new.result.items [] (c.new.ensures.items ∙ sym no-lines)).0
