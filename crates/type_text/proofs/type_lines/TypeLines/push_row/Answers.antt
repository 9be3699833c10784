use Rattle.std.proofs.Common.{refl, arith}
use Rattle.type_text.specs.Rows.{line_of_row}
use Rattle.type_text.proofs.Rows.{kept_row, kept_count}
use Rattle.type_text.proofs.type_lines.TypeLines.push_row.Goals as goal

pub returns-clause-lines : goal.returns-clause-lines
returns-clause-lines c = rw c.in_ok-push.ensures.items (kept_row c.args.self.now.head.items c.args.self.now.rows.items c.args.row (line_of_row c.args.row) refl)

pub returns-clause-few : goal.returns-clause-few
returns-clause-few c = omega (arith, kept_count c.args.self.now.head.items c.push.new.self.items, c.push.new.self.small, c.push.new.self.ok.0, c.push.new.self.ok.1, c.args.self.now.head.small, c.args.self.now.head.ok.0, c.args.self.now.head.ok.1)
