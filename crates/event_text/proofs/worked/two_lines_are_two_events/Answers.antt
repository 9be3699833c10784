use Rattle.std.proofs.Common.{refl}
use Rattle.event_text.specs.EventText.{events_said}
use Rattle.event_text.proofs.worked.two_lines_are_two_events.Goals as goal

pub returns-clause-two : goal.returns-clause-two
unfolding events_said
returns-clause-two c = refl

pub returns-clause-none : goal.returns-clause-none
unfolding events_said
returns-clause-none c = refl
