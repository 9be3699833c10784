use Rattle.std.proofs.Common.{◌∙◌, inl, inr}
use Rattle.library_calls.specs.Codes.{number}
use Rattle.colock_c.specs.Types.{faulty, not_for, HasNoFile, IsFileFor, IsDeclaredFile, IsNotFor}
use Rattle.colock_c.proofs.Typings.{of_none, of_such}
use Rattle.colock_c.proofs.made_types.hold_text.Goals as goal

pub returns-in-Ok : goal.returns-in-Ok
returns-in-Ok c =
    of_such (IsFileFor c.args.kind c.in-Ok.declared) (IsDeclaredFile c.args.text.now c.args.kind)
    (IsNotFor c.args.kind c.in-Ok.declared _) (HasNoFile c.args.text.now c.args.kind c.args.fault.now)
    c.args.kind c.args.fault.now _ (number c.hold_declared.result) c.hold_declared.new.fault c.hold_declared.new.slot.handle.held
    (λ file is. (c.in-Ok.declared, c.in-Ok.ensures.read.0, is))
    (λ m words amiss. not_for c.in-Ok.declared c.in-Ok.ensures.read.0 (record { needs = amiss.needs; told = amiss.told; stay = amiss.stay ∙ c.in-Ok.ensures.read.1 }))
    c.in-Ok.ensures.read.1 c.hold_declared.ensures

pub returns-in-Err : goal.returns-in-Err
returns-in-Err c =
    of_none (IsDeclaredFile c.args.text.now c.args.kind) (HasNoFile c.args.text.now c.args.kind c.args.fault.now)
    c.args.kind c.args.fault.now c.in-Err.code _ c.args.slot.now.handle.held
    (elim c.in-Err.ensures.refused [
      | inl memory ↦ inl memory
      | inr text ↦ inr (faulty text)
    ])
    c.requires
