use Rattle.std.proofs.Common.{◌<◌, length, sym, subst, arith}
use Rattle.std.proofs.lemmas.Bool.{iff_false}
use Rattle.number_types.specs.Number.{Number}
use Rattle.number_types.specs.Operations.{number_table}
use Rattle.object_trait.specs.Meaning.{Meaning}
use Rattle.object_trait.proofs.Amounts.{told-none}
use Rattle.escrow_manager.specs.KeptAmount.{IsKeptFrom}
use Rattle.escrow_manager.proofs.KeptOps.{inside-ops}
use Rattle.escrow_manager.proofs.KeptAmounts.{number-inside, value-alone}
use Rattle.escrow_manager.proofs.manager.EscrowManager.value_kept.Goals as goal

pub is_kept_from-requires : goal.is_kept_from-requires
is_kept_from-requires c =
    let v : Number = c.args.number.now in
    subst (λ f. c.with.result < length f.table.ops) (sym c.requires.number)
    (subst (λ k. k < length (number_table v).ops) (sym c.with.ensures)
    (inside-ops v c.args.place c.seen-n.result (omega arith)
    (number-inside c.totals-totals.ensures.1 c.marks_are_exact.ensures c.marks_fit.ensures c.firm_is_legal.ensures v c.calls-calls.ensures.number c.requires.number c.number_tells_bounds.ensures c.args.t c.seen-n.result c.seen-n.ensures.exact)))

pub returns-else-is_kept_from : goal.returns-else-is_kept_from
returns-else-is_kept_from c =
    let m : Meaning = c.args.self.now in
    told-none m c.args.t c.args.place c.args.u
    (value-alone c.totals-totals.ensures.1 c.number_has_table.ensures c.args.number.now c.calls-calls.ensures.number c.requires.number c.number_tells_bounds.ensures c.args.t c.args.u c.args.place c.seen-n.result
    (omega arith) c.requires.place c.requires.call c.seen-n.ensures.exact
    (λ is. iff_false c.is_kept_from.ensures c.if-is_kept_from.false (subst (λ k. IsKeptFrom m c.args.t k c.args.u) (sym c.with.ensures) is)))
