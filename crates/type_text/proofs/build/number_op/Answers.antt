use Rattle.std.proofs.Common.{refl, ◌∙◌}
use Rattle.type_text.proofs.build.number_op.Goals as goal

pub returns-in_ok-insert : goal.returns-in_ok-insert
returns-in_ok-insert c =
    let absent = c.requires c.in-Operation.op c.in-Operation.is in
    rw c.in-Operation.is (c.in_ok-insert.ensures.keys ∙ rw absent refl)
