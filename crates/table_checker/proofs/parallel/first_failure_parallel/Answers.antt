use Rattle.table_checker.proofs.Found.{none-passes, fails-somewhere, first-of_number}
use Rattle.table_checker.proofs.parallel.first_failure_parallel.Goals as goal

pub returns-in_err-number : goal.returns-in_err-number
returns-in_err-number g c =
    rw c.from_residual.ensures (none-passes c.args.condition c.args.file.now c.args.conflicts.now c.in_err-number.ensures)

-- a pair that fails does so at some state
pub returns-in_err-s : goal.returns-in_err-s
returns-in_err-s g c =
    let pair = c.pair_of-p in
    absurd (fails-somewhere c.args.condition c.args.file.now c.args.conflicts.now c.in_ok-number.number pair.result.p pair.result.q pair.ensures.requested pair.ensures.held c.in_ok-number.ensures.passes c.in_err-s.ensures)

pub returns : goal.returns
returns g c =
    let pair = c.pair_of-p in
    first-of_number c.args.condition c.args.file.now c.args.conflicts.now c.in_ok-number.number _ pair.result.p pair.result.q c.in_ok-s.s pair.ensures.requested pair.ensures.held pair.ensures.requested_inside pair.ensures.held_inside c.in_ok-number.ensures c.in_ok-s.ensures
