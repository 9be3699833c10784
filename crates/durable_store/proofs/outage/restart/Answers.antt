use Rattle.std.proofs.Common.{subst}
use Rattle.journal.specs.Contents.{Contents}
use Rattle.durable_store.specs.Recovered.{IsRecovered}
use Rattle.durable_store.proofs.outage.restart.Goals as goal

pub returns-in-Ok-clause-found : goal.returns-in-Ok-clause-found
returns-in-Ok-clause-found g c =
    λ now.
    let it = c.in_ok-journal.ensures.found (c.in-Ok.ensures.clean now) in
    (it.0, it.1, subst (λ (said : Contents). IsRecovered g.S.Store said c.in-Ok.durable) it.2 (c.in-Ok.ensures.found now))
