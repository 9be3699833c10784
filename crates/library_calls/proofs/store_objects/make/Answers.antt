use Rattle.std.proofs.Common.{◌∙◌, Some, ap}
use Rattle.library_calls.specs.Codes.{number}
use Rattle.library_calls.specs.Holding.{objects_at}
use Rattle.library_calls.specs.declared.held.Held.{Held}
use Rattle.library_calls.proofs.Limits.{another_limit}
use Rattle.library_calls.proofs.store_objects.make.Goals as goal

pub returns-clause-makes : goal.returns-clause-makes
returns-clause-makes c = λ ms e.
    another_limit ms c.limit_of.result c.args.events c.args.«open» c.args.objects (number c.made-now.result.1) (Some c.made-now.result.0) c.limit_of.ensures
    (c.made-now.ensures.makes ms (ap (λ (h : Held). objects_at (Some h)) c.replace.ensures.value ∙ e))
