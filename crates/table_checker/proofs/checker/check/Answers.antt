use Rattle.std.proofs.Common.{OnOk, sym, subst}
use Rattle.type_table.specs.Kind.{of_table}
use Rattle.type_table.specs.declared.kind.Kind.{Kind}
use Rattle.type_table.specs.declared.kind.Kind.TheVariants.{Escrow}
use Rattle.table_checker.specs.Laws.{CoversType}
use Rattle.table_checker.proofs.Yeses.{yes-gives}
use Rattle.table_checker.proofs.checker.check.Goals as goal

pub returns-in-Some-clause-covers : goal.returns-in-Some-clause-covers
returns-in-Some-clause-covers c =
    subst (λ (kind : Kind). OnOk c.check_commuting.result (CoversType kind c.args.file)) (rw c.in-Some.is at c.table_kind.ensures.back)
    (yes-gives c.yes_covers.ensures (of_table c.in-Some.kind) c.args.file c.check_commuting.result c.check_commuting.ensures)

pub returns-in-None-clause-covers : goal.returns-in-None-clause-covers
returns-in-None-clause-covers c =
    subst (λ (kind : Kind). OnOk c.check_numeric.result (CoversType kind c.args.file)) (sym (rw c.in-None.is at c.table_kind.ensures.back))
    (yes-gives c.yes_covers.ensures Escrow c.args.file c.check_numeric.result c.check_numeric.ensures)
