use Rattle.std.proofs.Common.{subst}
use Rattle.store_laws.specs.Stored.{Stored}
use Rattle.durable_store.specs.Durable.{is_prepared}
use Rattle.durable_store.specs.Keys.{CommitsUnder}
use Rattle.durable_store.specs.declared.keyed.Keyed.TheVariants.{Known}
use Rattle.durable_store.proofs.HeldKeys.{same-prepared}
use Rattle.durable_store.proofs.durable.Durable.commit_under.Goals as goal

pub returns-in-Known-clause-step : goal.returns-in-Known-clause-step
returns-in-Known-clause-step g c =
    subst (λ (s : Stored). CommitsUnder (is_prepared c.args.self.now c.args.t) s c.args.t (Known c.in-Known.outcome) c.supersede.new.self.store) c.in_ok-state_of.ensures.store
    (subst (λ b. CommitsUnder b c.state_of.new.self.store c.args.t (Known c.in-Known.outcome) c.supersede.new.self.store)
    (same-prepared c.args.self.now c.state_of.new.self c.args.t c.in_ok-state_of.ensures.prepared) c.in_ok-supersede-in-Known.ensures.step)
