use Rattle.std.proofs.Common.{◌≡◌, length, sym, subst, arith}
use Rattle.std.proofs.lemmas.Bool.Decides.{nat_tests}
use Rattle.attempts.specs.Made.{DoesCalls}
use Rattle.attempts.proofs.OneCall.{only-asked}
use Rattle.attempts.proofs.one_call.do_only.Goals as goal

pub returns : goal.returns
returns g c =
    let one : length c.args.calls.now ≡ 1 = first_of (omega arith, grind (arith, nat_tests, c.if-calls-ne1.false)) in
    subst (λ calls. DoesCalls c.args.store.now c.args.w calls c.do_call.result c.do_call.new.store) (sym (only-asked c.args.calls.now _ one)) c.do_call.ensures
