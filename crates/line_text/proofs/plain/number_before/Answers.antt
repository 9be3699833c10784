use Rattle.std.proofs.Common.{◌≤◌, get_or, sym, arith}
use Rattle.decimals.proofs.Digits.{digit_range, digit_fits}
use Rattle.line_text.proofs.plain.number_before.Goals as goal

pub overflow_mul-number : goal.overflow_mul-number
overflow_mul-number c =
    omega (arith, digit_fits c.loop-count.number c.loop-count.count 0 7 c.loop-count.invariant.fits c.loop-count-test.true (omega arith) (omega arith))

pub overflow_add-number : goal.overflow_add-number
overflow_add-number c =
    let d : c.from.result ≤ 9 = omega (arith, digit_range (get_or c.args.text.now c.loop-count.count 0) (sym c.if-not-is_digit.ensures)) in
    omega (arith, digit_fits c.loop-count.number c.loop-count.count c.from.result 7 c.loop-count.invariant.fits c.loop-count-test.true (omega arith) d)
