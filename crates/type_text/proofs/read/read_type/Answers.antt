use Rattle.type_text.specs.TypeLines.{type_rules}
use Rattle.type_text.specs.Kept.{kept_lines}
use Rattle.type_text.proofs.Accepted.{are_type_lines}
use Rattle.type_text.proofs.read.read_type.Goals as goal

pub file_of-requires : goal.file_of-requires
file_of-requires c =
    let lines = kept_lines c.in_ok-lines.lines in
    are_type_lines lines (c.accepted_in_order.ensures type_rules lines c.in_ok-lines.ensures.accepted)
