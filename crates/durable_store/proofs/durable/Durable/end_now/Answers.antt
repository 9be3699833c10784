use Rattle.journal.specs.Journal.{written}
use Rattle.durable_store.specs.Votes.{decided_command}
use Rattle.durable_store.proofs.Decided.{decided-spares}
use Rattle.durable_store.proofs.Spared.{done-prepared}
use Rattle.durable_store.proofs.Stepped.{done-behind}
use Rattle.durable_store.proofs.durable.Durable.end_now.Goals as goal

pub write_since-requires-clause-behind : goal.write_since-requires-clause-behind
write_since-requires-clause-behind g c =
    done-behind g.S.Store c.args.self.now (decided_command c.args.how c.args.t) c.end_in-ended.result c.end_in-ended.new.store c.event_count-count.result c.steps_are_retraced.ensures.steps c.requires.sound
    c.event_count-count.ensures.exact c.event_count-count.ensures.within c.end_in-ended.ensures

pub write_since-requires-clause-prepared : goal.write_since-requires-clause-prepared
write_since-requires-clause-prepared g c = λ clean.
    done-prepared c.args.self.now.store (decided_command c.args.how c.args.t) c.end_in-ended.result c.end_in-ended.new.store (written g.S.Store c.args.self.now.journal) c.args.self.now.prepared.items
    (decided-spares c.args.how c.args.t c.args.self.now.prepared.items c.requires.free) c.end_in-ended.ensures (c.requires.sound.prepared clean)
