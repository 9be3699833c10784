use Rattle.library_calls.specs.Codes.{number}
use Rattle.colock_c.proofs.Typings.{of_number}
use Rattle.colock_c.proofs.held_types.hold_in_escrow.Goals as goal

pub returns-in-Escrow : goal.returns-in-Escrow
returns-in-Escrow c = λ was.
    of_number c.args.file.now c.args.kind was (number c.hold_copy.result) c.hold_copy.new.slot.handle.held c.in-Escrow.is (c.hold_copy.ensures was)
