use Rattle.object_types.proofs.Objects.{number_checked}
use Rattle.object_types.proofs.accept.accept_number.Goals as goal

pub returns-in_ok-new-in-Escrow-clause-accepted : goal.returns-in_ok-new-in-Escrow-clause-accepted
returns-in_ok-new-in-Escrow-clause-accepted c =
    number_checked c.args.kind c.args.number.now c.in_ok-copy-in-Escrow.field-0 c.check_number-checked.result c.in_ok-new-in-Escrow.field-0 c.in-Escrow.is c.in_ok-copy-in-Escrow.ensures
    c.check_number-checked.ensures.exact c.initial-initial.ensures.checked c.in_ok-new-in-Escrow.ensures.ok
