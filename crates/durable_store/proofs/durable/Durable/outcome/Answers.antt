use Rattle.durable_store.proofs.HeldKeys.{unknown-else}
use Rattle.durable_store.proofs.durable.Durable.outcome.Goals as goal

pub returns-in_default-clause-found : goal.returns-in_default-clause-found
returns-in_default-clause-found g c = λ clean.
    unknown-else g.S.Store c.args.self.now c.args.key.now c.in_ok-outcome.field-0 c.requires (c.state_of.ensures.clean clean) (c.in_ok-outcome.ensures.knows clean) (λ o. c.in_default.not-Known o)
