use Rattle.std.proofs.Common.{arith, rules}
use Rattle.command_words.proofs.OrderedLemmas.{all_read, none_left, none_read, one_less}
use Rattle.command_words.proofs.ordered.numbers_of.Goals as goal

pub returns-in_default-number_of : goal.returns-in_default-number_of
returns-in_default-number_of c =
    let cut = c.in-Some.ensures.byte (omega arith) (λ w o f. f) in
    none_read c.args.text.now c.numbers.rest.now c.numbers.numbers.items c.numbers.invariant.left c.in-Some.first.now cut.2 cut.0 c.in_default-number_of.ensures.other

pub numbers-preserved : goal.numbers-preserved
numbers-preserved c =
    let cut = c.in-Some.ensures.byte (omega arith) (λ w o f. f) in
    record {
      text = search rules;
      left = rw c.in_ok-push.ensures.items
          (one_less c.args.text.now c.numbers.rest.now c.numbers.numbers.items c.numbers.invariant.left c.in-Some.first.now c.in-Some.behind.now c.in-Some-number_of.number cut.2 cut.0 cut.1
          c.in-Some-number_of.ensures.number);
    }

pub returns : goal.returns
returns c =
    let end = c.in_default.ensures.byte (omega arith) (λ w o f. f) in
    rw c.in_ok-push-2.ensures.items
    (all_read c.args.text.now c.numbers.rest.now c.numbers.numbers.items c.numbers.invariant.left c.in-Some-number_of-2.number (λ has. omega (arith, has, end)) c.in-Some-number_of-2.ensures.number)

pub returns-in_default-number_of-2 : goal.returns-in_default-number_of-2
returns-in_default-number_of-2 c =
    let end = c.in_default.ensures.byte (omega arith) (λ w o f. f) in
    none_left c.args.text.now c.numbers.rest.now c.numbers.numbers.items c.numbers.invariant.left (λ has. omega (arith, has, end)) c.in_default-number_of-2.ensures.other
