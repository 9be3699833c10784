use Rattle.std.proofs.Common.{sym, ap, ◌∙◌}
use Rattle.std.specs.List.{list_any}
use Rattle.type_text.specs.TypeLines.{is_twin}
use Rattle.type_text.specs.declared.type_line.TypeLine.TheVariants.{Operation}
use Rattle.type_text.proofs.Rows.{head_twins}
use Rattle.type_text.proofs.type_lines.TypeLines.has_op.Goals as goal

pub returns : goal.returns
returns c = c.has_op.ensures ∙ ap (list_any (is_twin (Operation c.args.op))) c.deref.ensures.value ∙ sym (head_twins c.args.self.now.head.items c.args.self.now.rows.items c.args.op)
