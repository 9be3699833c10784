use Rattle.serial_order.specs.declared.command.Command.TheVariants as command
use Rattle.journal.specs.Journal.{written}
use Rattle.durable_store.proofs.Spared.{step-prepared}
use Rattle.durable_store.proofs.Stepped.{step-behind}
use Rattle.durable_store.proofs.durable.Durable.call_now.Goals as goal

pub write_since-requires-clause-behind : goal.write_since-requires-clause-behind
write_since-requires-clause-behind g c =
    step-behind g.S.Store c.args.self.now (command.Call c.args.t c.args.x c.args.name.now) c.call_bytes-answered.result c.call_bytes-answered.new.self c.event_count-count.result c.steps_are_retraced.ensures.steps c.requires.sound c.event_count-count.ensures.exact
    c.event_count-count.ensures.within c.call_bytes-answered.ensures.step

pub write_since-requires-clause-prepared : goal.write_since-requires-clause-prepared
write_since-requires-clause-prepared g c = λ clean.
    step-prepared c.args.self.now.store (command.Call c.args.t c.args.x c.args.name.now) c.call_bytes-answered.result c.call_bytes-answered.new.self (written g.S.Store c.args.self.now.journal) c.args.self.now.prepared.items tt c.call_bytes-answered.ensures.step (c.requires.sound.prepared clean)
