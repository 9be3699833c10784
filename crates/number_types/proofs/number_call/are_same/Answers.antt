use Rattle.std.proofs.Common.{arith}
use Rattle.std.proofs.lemmas.List.{ext_get_or}
use Rattle.number_types.specs.declared.number_call.NumberCall.TheVariants.{Value}
use Rattle.number_types.proofs.number_call.are_same.Goals as goal

pub returns : goal.returns
returns c = λ yes.
    let all = c.loop-i-test.false in
    ext_get_or Value c.args.calls.now c.args.others.now c.if-calls-others.false (λ k below. c.loop-i.invariant k (omega (arith, all, below)))
