use Rattle.std.proofs.Common.{◌∙◌, subst, sym}
use Rattle.std.specs.Prelude.{IfOk}
use Rattle.object_types.specs.Types.{IsCheckedFor, value_of}
use Rattle.object_types.proofs.accept.check_copy.Goals as goal

pub returns-in-Number-clause-accepted : goal.returns-in-Number-clause-accepted
returns-in-Number-clause-accepted c =
    subst (λ d. IfOk c.accept_number.result (λ a. IsCheckedFor c.args.kind d (value_of a))) (sym c.in-Number.is ∙ c.declaration.ensures) c.accept_number.ensures.accepted
