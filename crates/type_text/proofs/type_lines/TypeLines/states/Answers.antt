use Rattle.std.proofs.Common.{sym, ap, ◌∙◌}
use Rattle.type_text.specs.TypeLines.{states_of}
use Rattle.type_text.proofs.Rows.{head_states}
use Rattle.type_text.proofs.type_lines.TypeLines.states.Goals as goal

pub returns : goal.returns
returns c = c.states_of.ensures ∙ ap states_of c.deref.ensures.value ∙ sym (head_states c.args.self.now.head.items c.args.self.now.rows.items)
