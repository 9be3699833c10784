use Rattle.std.proofs.Common.{ℕ}
use Rattle.type_table.specs.declared.kind.Kind.{Kind}
use Rattle.colock_c.specs.Types.{HasNoFile, IsDeclaredFile, MakesType}
use Rattle.colock_c.proofs.Typings.{for_kind}
use Rattle.colock_c.proofs.types.colock_type_read.Goals as goal

pub returns-clause-made : goal.returns-clause-made
returns-clause-made c = λ k empty is.
    for_kind (λ (k : Kind) (n : ℕ). MakesType (IsDeclaredFile c.args.text.now k) (HasNoFile c.args.text.now k c.args.fault.now) k c.args.fault.now n c.hold_text.new.fault c.hold_text.new.slot.handle.held)
    _ c.in-Some.kind k _ c.number-2.result c.in-Some.ensures is c.number-2.ensures c.hold_text.ensures
