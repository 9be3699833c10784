use Rattle.number_text.specs.NumberLines.{number_rules}
use Rattle.number_text.proofs.Accepted.{are_number_lines}
use Rattle.number_text.proofs.read.read_number.Goals as goal

pub number_of-requires : goal.number_of-requires
number_of-requires c = rw c.deref.ensures.value (are_number_lines c.in_ok-lines.lines.items (c.accepted_in_order.ensures number_rules c.in_ok-lines.lines.items c.in_ok-lines.ensures.accepted))
