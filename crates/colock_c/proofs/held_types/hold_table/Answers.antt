use Rattle.std.proofs.Common.{◌≡◌, refl}
use Rattle.library_calls.specs.Codes.{number}
use Rattle.colock_c.proofs.Typings.{of_file}
use Rattle.colock_c.proofs.held_types.hold_table.Goals as goal

pub returns-in-Ok : goal.returns-in-Ok
returns-in-Ok c =
    of_file (λ f. f ≡ c.args.file.now) (λ n words. ⊥)
    c.in-Ok.copied c.args.kind c.args.fault.now c.args.fault.now (number c.hold_type.result) c.hold_type.new.fault c.hold_type.new.slot.handle.held c.in-Ok.ensures refl c.hold_type.ensures
