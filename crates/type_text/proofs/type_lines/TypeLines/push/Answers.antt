use Rattle.type_text.proofs.Rows.{no_row_before}
use Rattle.type_text.proofs.type_lines.TypeLines.push.Goals as goal

pub push_head-requires-clause-one : goal.push_head-requires-clause-one
push_head-requires-clause-one c = rw c.in-Err.ensures.1 c.in-Err.ensures.0

pub push_head-requires-clause-none : goal.push_head-requires-clause-none
push_head-requires-clause-none c = no_row_before c.args.self.now.head.items c.args.self.now.rows.items c.args.line c.in-Err.ensures.0 c.requires
