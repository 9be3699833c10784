use Rattle.event_text.proofs.Groups.{pushed-lines, pushed-said}
use Rattle.event_text.proofs.event_group.EventGroup.push.Goals as goal

pub invariant_of-self : goal.invariant_of-self
invariant_of-self c = pushed-lines c.push_event.result c.self.inside.lines.items c.push_event.new.text.items c.args.event c.self.invariant c.push_event.ensures.line c.push_event.ensures.refused c.push_event.ensures.short

pub returns-clause-pushed : goal.returns-clause-pushed
returns-clause-pushed c = rw (← c.self.view_is) (pushed-said c.push_event.result c.self.inside.lines.items c.push_event.new.text.items c.args.event c.self.invariant.0 c.push_event.ensures.line)
