use Rattle.std.proofs.Common.{ℕ}
use Rattle.type_table.specs.declared.kind.Kind.{Kind}
use Rattle.colock_c.specs.NumberTypes.{HasNoNumber, IsOfNumber}
use Rattle.colock_c.specs.Types.{MakesType}
use Rattle.colock_c.proofs.Typings.{for_kind}
use Rattle.colock_c.proofs.types.colock_type_number.Goals as goal

pub returns-clause-made : goal.returns-clause-made
returns-clause-made c = λ k empty is.
    for_kind (λ (k : Kind) (n : ℕ). MakesType (IsOfNumber c.args.max c.args.amounts.now k) (HasNoNumber c.args.max c.args.amounts.now k c.args.fault.now) k c.args.fault.now n c.hold_amounts.new.fault c.hold_amounts.new.slot.handle.held)
    _ c.in-Some.kind k _ c.number-2.result c.in-Some.ensures is c.number-2.ensures c.hold_amounts.ensures
