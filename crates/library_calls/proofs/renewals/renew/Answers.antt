use Rattle.std.proofs.Common.{◌∙◌, Some, ap}
use Rattle.library_calls.specs.Holding.{store_at}
use Rattle.library_calls.specs.declared.held.Held.{Held}
use Rattle.library_calls.proofs.renewals.renew.Goals as goal

pub returns-clause-renews : goal.returns-clause-renews
returns-clause-renews c = λ s is. c.renewed-now.ensures.renews s (ap (λ (h : Held). store_at (Some h)) c.replace.ensures.value ∙ is)
