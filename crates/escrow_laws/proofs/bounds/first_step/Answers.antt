use Rattle.std.proofs.Common.{sym, ◌∙◌, arith}
use Rattle.escrow_laws.proofs.Searching.{none-yet, none-more, legal-first, none-all}
use Rattle.escrow_laws.proofs.bounds.first_step.Goals as goal

pub loop-from-init : goal.loop-from-init
loop-from-init c = none-yet c.args.table.now c.args.k c.args.start

pub loop-from-preserved : goal.loop-from-preserved
loop-from-preserved c = none-more c.args.table.now c.args.k c.args.start c.loop-from.from c.loop-from.invariant (sym c.next.ensures.exact ∙ c.in_default.is)

pub returns-in-Some : goal.returns-in-Some
returns-in-Some c = legal-first c.args.table.now c.args.k c.args.start c.loop-from.from c.in-Some.to c.loop-from.invariant (omega arith) (sym c.next.ensures.exact ∙ c.in-Some.is)

pub returns : goal.returns
returns c = none-all c.steps_within.ensures c.args.table.now c.states-from-end.ensures.table c.args.k c.args.start c.loop-from.from c.loop-from.invariant (omega arith)
