use Rattle.std.proofs.Common.{arith, below_more}
use Rattle.escrow_laws.specs.Search.{IsFaultlessAt}
use Rattle.escrow_laws.proofs.Searching.{first-of-all, all-faultless}
use Rattle.escrow_laws.proofs.bounds.first_fault.Goals as goal

pub loop-operation-preserved : goal.loop-operation-preserved
loop-operation-preserved c = below_more (λ j. IsFaultlessAt c.args.table.now j) c.loop-operation.operation c.loop-operation.invariant c.in_default.ensures

pub returns-in-Some : goal.returns-in-Some
returns-in-Some c =
    first-of-all c.steps_within.ensures c.args.table.now c.op_count-operation-end.ensures.table c.loop-operation.operation c.in-Some.state
    (λ j r less. c.loop-operation.invariant j less r) c.in-Some.ensures

pub returns : goal.returns
returns c = all-faultless c.steps_within.ensures c.args.table.now c.op_count-operation-end.ensures.table (λ k s inside. c.loop-operation.invariant k (omega (arith, inside)) s)
