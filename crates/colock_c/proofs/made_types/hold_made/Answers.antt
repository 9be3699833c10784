use Rattle.library_calls.specs.Codes.{number}
use Rattle.library_calls.specs.Words.{kind_by_number}
use Rattle.colock_c.proofs.Typings.{of_made}
use Rattle.colock_c.proofs.made_types.hold_made.Goals as goal

pub returns-in-Ok-clause-made : goal.returns-in-Ok-clause-made
returns-in-Ok-clause-made c = λ k empty is.
    of_made c.args.made c.in-Ok.file (kind_by_number c.args.kind) c.in-Some.kind k c.args.fault.now (number c.hold_type.result) c.number-in-Ok.result c.hold_type.new.fault c.hold_type.new.slot.handle.held
    c.in-Ok.is c.in-Some.ensures is c.number-in-Ok.ensures c.hold_type.ensures
