use Rattle.std.proofs.Common.{[], sym, ◌∙◌}
use Rattle.event_text.proofs.Groups.{is-group, lines-of, no-lines}
use Rattle.event_text.proofs.event_group.EventGroup.clear.Goals as goal

pub invariant_of-self : goal.invariant_of-self
invariant_of-self c = is-group c.clear.new.self.items [] (c.clear.ensures.items ∙ sym no-lines) tt

pub returns : goal.returns
returns c = (lines-of c.clear.new.self.items [] (c.clear.ensures.items ∙ sym no-lines)).0
