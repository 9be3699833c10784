use Rattle.std.proofs.Common.{sym, ap, subst, ◌∙◌}
use Rattle.type_table.specs.Table.{IsTable}
use Rattle.declared_types.specs.Declarations.{file_of}
use Rattle.object_trait.proofs.Amounts.{told-of-table}
use Rattle.escrow_manager.proofs.manager.EscrowManagerRecovery.amount_kept.Goals as goal

pub number_kept-requires-clause-number : goal.number_kept-requires-clause-number
number_kept-requires-clause-number c = sym c.declared.ensures.exact ∙ ap file_of (sym c.declaration.ensures ∙ c.in-Number.is)

pub returns-in-Table : goal.returns-in-Table
returns-in-Table c =
    told-of-table c.args.self.now
    (subst (λ f. IsTable f.table) (sym (sym c.declared.ensures.exact ∙ ap file_of (sym c.declaration.ensures ∙ c.in-Table.is))) c.states-states.ensures.table)
    c.args.t c.args.place c.args.u
