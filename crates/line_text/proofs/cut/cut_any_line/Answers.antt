use Rattle.line_text.proofs.Lines.{lines_of-some}
use Rattle.line_text.proofs.cut.cut_any_line.Goals as goal

pub unreachable-requires : goal.unreachable-requires
unreachable-requires c = lines_of-some c.args.text.now c.requires c.in-None.ensures.lines
