use Rattle.std.proofs.Common.{refl, inl, inr}
use Rattle.library_calls.specs.Codes.{number}
use Rattle.colock_c.specs.NumberTypes.{none, not_for, HasNoNumber, IsOfNumber}
use Rattle.colock_c.specs.Types.{IsFileFor, IsNotFor}
use Rattle.colock_c.proofs.Typings.{of_none, of_such}
use Rattle.colock_c.proofs.made_types.hold_amounts.Goals as goal

pub returns-in-Ok : goal.returns-in-Ok
returns-in-Ok c =
    of_such (IsFileFor c.args.kind c.in-Ok.declared) (IsOfNumber c.args.max c.args.amounts.now c.args.kind)
    (IsNotFor c.args.kind c.in-Ok.declared c.args.fault.now) (HasNoNumber c.args.max c.args.amounts.now c.args.kind c.args.fault.now)
    c.args.kind c.args.fault.now c.args.fault.now (number c.hold_declared.result) c.hold_declared.new.fault c.hold_declared.new.slot.handle.held
    (λ file is. (c.in-Ok.declared, c.in-Ok.ensures.made, is))
    (λ m words amiss. not_for c.in-Ok.declared c.in-Ok.ensures.made amiss)
    refl c.hold_declared.ensures

pub returns-in-Err : goal.returns-in-Err
returns-in-Err c =
    of_none (IsOfNumber c.args.max c.args.amounts.now c.args.kind) (HasNoNumber c.args.max c.args.amounts.now c.args.kind c.args.fault.now)
    c.args.kind c.args.fault.now c.in-Err.code c.args.fault.now c.args.slot.now.handle.held
    (elim c.in-Err.ensures.refused [
      | inl memory ↦ inl (memory, refl)
      | inr why ↦ inr (none why refl)
    ])
    c.requires
