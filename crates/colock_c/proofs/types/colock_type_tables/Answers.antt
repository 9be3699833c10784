use Rattle.std.proofs.Common.{ℕ}
use Rattle.type_table.specs.declared.kind.Kind.{Kind}
use Rattle.library_calls.specs.Types.{IsNoTypeFile, IsTabledOf}
use Rattle.colock_c.specs.Types.{MakesType}
use Rattle.colock_c.proofs.Typings.{for_kind}
use Rattle.colock_c.proofs.types.colock_type_tables.Goals as goal

pub returns-clause-made : goal.returns-clause-made
returns-clause-made c = λ k empty is.
    for_kind (λ (k : Kind) (n : ℕ). MakesType (IsTabledOf c.args.text.now) (IsNoTypeFile c.args.text.now) k c.args.fault.now n c.hold_tabled.new.fault c.hold_tabled.new.slot.handle.held)
    _ c.in-Some.kind k _ c.number-2.result c.in-Some.ensures is c.number-2.ensures c.hold_tabled.ensures
