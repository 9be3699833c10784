use Rattle.std.proofs.Common.{◌≡◌, [], get_or, sym, ap, ◌∙◌, inl, inr, arith}
use Rattle.std.proofs.lemmas.Bool.{cases_eq}
use Rattle.std.proofs.lemmas.List.{ext_get_or, get_or_default}
use Rattle.object_calls.specs.declared.call.NamedCall.{NamedCall}
use Rattle.object_calls.proofs.call.are_same.Goals as goal

pub loop-i-preserved : goal.loop-i-preserved
loop-i-preserved c = λ k d below.
    let i = c.loop-i.i in
    let one = c.index-calls-i.result in
    let other = c.index-others-i.result in
    let same : one ≡ other = c.is_same.ensures c.if-not-is_same.false in
    let here : get_or c.args.calls.now i d ≡ get_or c.args.others.now i d =
    get_or_default c.args.calls.now i d one (omega (arith, c.loop-i-test.true)) ∙ sym c.index-calls-i.is ∙ same ∙ c.index-others-i.is
    ∙ get_or_default c.args.others.now i other d (omega (arith, c.loop-i-test.true, c.if-calls-others.false)) in
    elim (cases_eq k i) [
      | inl is ↦ ap (λ j. get_or c.args.calls.now j d) is ∙ here ∙ ap (λ j. get_or c.args.others.now j d) (sym is)
      | inr isnt ↦ c.loop-i.invariant k d (omega (arith, below, isnt))
    ]

-- any call
some_call : NamedCall
some_call = record { name = []; call = record { first = 0; operations = 0 } }

pub returns : goal.returns
returns c = λ yes.
    ext_get_or some_call c.args.calls.now c.args.others.now c.if-calls-others.false (λ k below. c.loop-i.invariant k some_call (omega (arith, c.loop-i-test.false, below)))
