use Rattle.std.proofs.Common.{arith}
use Rattle.type_text.proofs.Rows.{kept_head, kept_count}
use Rattle.type_text.proofs.type_lines.TypeLines.push_head.Goals as goal

pub returns-clause-lines : goal.returns-clause-lines
returns-clause-lines c = rw c.in_ok-push.ensures.items (kept_head c.args.self.now.head.items c.args.self.now.rows.items c.args.line c.requires.none)

pub returns-clause-few : goal.returns-clause-few
returns-clause-few c = omega (arith, kept_count c.push.new.self.items c.args.self.now.rows.items, c.push.new.self.small, c.push.new.self.ok.0, c.push.new.self.ok.1, c.args.self.now.rows.small, c.args.self.now.rows.ok.0, c.args.self.now.rows.ok.1)
