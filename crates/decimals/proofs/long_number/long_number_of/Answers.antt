use Rattle.std.proofs.Common.{◌≡◌, ◌≤◌, ◌<◌, length, true, sym, ◌∙◌, take, get_or, Some, ap, arith}
use Rattle.std.specs.List.{list_all}
use Rattle.std.proofs.lemmas.Grind.{common_steps}
use Rattle.std.proofs.lemmas.Bool.{eqb-false}
use Rattle.std.proofs.lemmas.List.{take_all}
use Rattle.decimals.specs.Decimals.{is_digit, number_value}
use Rattle.decimals.proofs.Digits.{digit_range, long_digit_fits, long_number_of-digits}
use Rattle.decimals.proofs.long_number.long_number_of.Goals as goal

pub overflow_mul-number : goal.overflow_mul-number
overflow_mul-number c =
    omega (arith, long_digit_fits c.loop-digit.number c.loop-digit.digit-index 0 _ c.loop-digit.invariant.fits c.loop-digit-test.true c.if-word-gt-MOST_DIGITS.false (omega arith))

pub overflow_add-number : goal.overflow_add-number
overflow_add-number c =
    let d : c.from.result ≤ 9 = omega (arith, digit_range (get_or c.args.word.now c.loop-digit.digit-index 0) (sym c.if-not-is_digit.ensures)) in
    omega (arith, long_digit_fits c.loop-digit.number c.loop-digit.digit-index c.from.result _ c.loop-digit.invariant.fits c.loop-digit-test.true c.if-word-gt-MOST_DIGITS.false d)

pub loop-digit-preserved : goal.loop-digit-preserved
loop-digit-preserved c =
    let d : c.from.result ≤ 9 = omega (arith, digit_range (get_or c.args.word.now c.loop-digit.digit-index 0) (sym c.if-not-is_digit.ensures)) in
    record {
      digits = grind (arith, common_steps);
      value = grind (arith, common_steps);
      fits = (long_digit_fits c.loop-digit.number c.loop-digit.digit-index c.from.result _ c.loop-digit.invariant.fits c.loop-digit-test.true c.if-word-gt-MOST_DIGITS.false d).0;
    }

pub returns : goal.returns
returns c =
    let some : 0 < length c.args.word.now = omega (arith, eqb-false (length c.args.word.now) 0 (sym c.if-is_empty.ensures)) in
    let all : length c.args.word.now ≤ c.loop-digit.digit-index = omega arith in
    let whole : take c.loop-digit.digit-index c.args.word.now ≡ c.args.word.now = take_all c.loop-digit.digit-index c.args.word.now all in
    let digits : list_all is_digit c.args.word.now ≡ true = rw whole at c.loop-digit.invariant.digits in
    let value : c.loop-digit.number ≡ number_value c.args.word.now = rw whole at c.loop-digit.invariant.value in
    ap Some value ∙ sym (long_number_of-digits c.args.word.now some c.if-word-gt-MOST_DIGITS.false digits (sym c.if-has_leading_zero.ensures))
