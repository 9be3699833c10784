use Rattle.library_calls.specs.Types.{IsNoTypeFile, IsTabledOf}
use Rattle.library_calls.specs.Codes.{number}
use Rattle.colock_c.proofs.Typings.{of_file, of_none}
use Rattle.colock_c.proofs.made_types.hold_tabled.Goals as goal

pub returns-in-Ok : goal.returns-in-Ok
returns-in-Ok c =
    of_file (IsTabledOf c.args.text.now) (IsNoTypeFile c.args.text.now)
    c.in-Ok.file c.args.kind c.args.fault.now _ (number c.hold_type.result) c.hold_type.new.fault c.hold_type.new.slot.handle.held c.in-Ok.ensures.made.0 c.in-Ok.ensures.made.1 c.hold_type.ensures

pub returns-in-Err : goal.returns-in-Err
returns-in-Err c =
    of_none (IsTabledOf c.args.text.now) (IsNoTypeFile c.args.text.now)
    c.args.kind c.args.fault.now c.in-Err.code _ c.args.slot.now.handle.held c.in-Err.ensures.refused c.requires
