use Rattle.std.proofs.Common.{◌<◌, length, arith}
use Rattle.table_checker.proofs.Failures.{first-failure}
use Rattle.table_checker.proofs.scan.first_failure.Goals as goal

pub returns-in-Some : goal.returns-in-Some
returns-in-Some c =
    let p_in : c.loop-p.p < length c.args.file.now.table.ops = omega (arith, c.loop-p-test.true, c.op_count-p-end.ensures.exact) in
    rw c.in-Some.ensures.0 (first-failure c.args.condition c.args.file.now c.args.conflicts.now c.loop-p.p c.in-Some.triple.q c.in-Some.triple.s p_in c.loop-p.invariant c.in-Some.ensures.1)
