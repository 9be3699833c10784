use Rattle.std.proofs.Common.{subst, sym, ◌∙◌, arith}
use Rattle.escrow_laws.specs.Search.{IsStretch}
use Rattle.escrow_laws.proofs.Searching.{alike-yet, alike-more, stop-end}
use Rattle.escrow_laws.proofs.bounds.first_stop.Goals as goal

pub loop-r-init : goal.loop-r-init
loop-r-init c = alike-yet c.args.table.now c.args.k c.args.step.from c.args.step.to

pub loop-r-preserved : goal.loop-r-preserved
loop-r-preserved c =
    alike-more c.args.table.now c.args.k c.args.step.from c.args.step.to c.loop-r.r c.loop-r.invariant (sym c.is_alike.ensures ∙ c.if-not-is_alike.false)

pub returns : goal.returns
returns c =
    subst (λ n. IsStretch c.args.table.now c.args.k c.args.step.from c.args.step.to n) (sym c.states.ensures.exact)
    (stop-end c.steps_within.ensures c.args.table.now c.states.ensures.table c.args.k c.args.step.from c.args.step.to c.loop-r.r c.requires.leads c.loop-r.invariant (omega arith))
