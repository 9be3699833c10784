use Rattle.std.proofs.Common.{subst, sym, ◌∙◌}
use Rattle.declared_types.specs.declared.declared_type.Declaration.{Declaration}
use Rattle.library_calls.specs.Codes.{number}
use Rattle.colock_c.specs.Types.{IsFileFor, MakesType, IsNotFor}
use Rattle.colock_c.proofs.Typings.{of_table}
use Rattle.colock_c.proofs.held_types.hold_declared.Goals as goal

pub returns-in-Table : goal.returns-in-Table
returns-in-Table c =
    subst (λ (d : Declaration). MakesType (IsFileFor c.args.kind d) (IsNotFor c.args.kind d c.args.fault.now) c.args.kind c.args.fault.now (number c.hold_table.result) c.hold_table.new.fault c.hold_table.new.slot.handle.held)
    (sym c.in-Table.is ∙ c.declaration.ensures)
    (of_table c.in-Table.file c.args.kind c.args.fault.now (number c.hold_table.result) c.hold_table.new.fault c.hold_table.new.slot.handle.held c.hold_table.ensures)

pub returns-in-Number : goal.returns-in-Number
returns-in-Number c =
    subst (λ (d : Declaration). MakesType (IsFileFor c.args.kind d) (IsNotFor c.args.kind d c.args.fault.now) c.args.kind c.args.fault.now (number c.hold_in_escrow.result) c.args.fault.now c.hold_in_escrow.new.slot.handle.held)
    (sym c.in-Number.is ∙ c.declaration.ensures)
    (c.hold_in_escrow.ensures c.args.fault.now)
