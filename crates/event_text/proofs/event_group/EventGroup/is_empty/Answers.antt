use Rattle.std.proofs.Common.{[], ap, sym, ◌∙◌}
use Rattle.event_text.specs.EventText.{event_lines, events_said}
use Rattle.event_text.proofs.Groups.{empty-text, no-lines}
use Rattle.event_text.proofs.ReadBack.{read-back}
use Rattle.event_text.proofs.event_group.EventGroup.is_empty.Goals as goal

pub returns : goal.returns
returns c =
    let both = empty-text c.as_bytes.result.now c.is_empty.result c.is_empty.ensures in (
      λ yes. sym (read-back c.args.self.now) ∙ ap events_said (sym c.as_bytes.ensures.lines ∙ both.0 yes ∙ sym no-lines) ∙ read-back [],
      λ is. both.1 (c.as_bytes.ensures.lines ∙ ap event_lines is ∙ no-lines),
    )
