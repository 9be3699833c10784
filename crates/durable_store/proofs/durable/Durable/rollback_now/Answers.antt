use Rattle.serial_order.specs.declared.command.Command.TheVariants as command
use Rattle.journal.specs.Journal.{written}
use Rattle.durable_store.proofs.Spared.{step-prepared}
use Rattle.durable_store.proofs.Stepped.{step-behind}
use Rattle.durable_store.proofs.durable.Durable.rollback_now.Goals as goal

pub write_since-requires-clause-behind : goal.write_since-requires-clause-behind
write_since-requires-clause-behind g c =
    step-behind g.S.Store c.args.self.now (command.Rollback c.args.t c.args.n) c.rollback-rolled_back.result c.rollback-rolled_back.new.self c.event_count-count.result c.steps_are_retraced.ensures.steps c.requires.sound c.event_count-count.ensures.exact
    c.event_count-count.ensures.within c.rollback-rolled_back.ensures

pub write_since-requires-clause-prepared : goal.write_since-requires-clause-prepared
write_since-requires-clause-prepared g c = λ clean.
    step-prepared c.args.self.now.store (command.Rollback c.args.t c.args.n) c.rollback-rolled_back.result c.rollback-rolled_back.new.self (written g.S.Store c.args.self.now.journal) c.args.self.now.prepared.items tt c.rollback-rolled_back.ensures (c.requires.sound.prepared clean)
