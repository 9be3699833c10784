use Rattle.attempts.specs.Commands.{asked_calls}
use Rattle.journal.specs.Journal.{written}
use Rattle.durable_store.proofs.Spared.{attempt-prepared}
use Rattle.durable_store.proofs.Attempted.{attempt-behind}
use Rattle.durable_store.proofs.durable.Durable.attempt.Goals as goal

pub write_since-requires-clause-behind : goal.write_since-requires-clause-behind
write_since-requires-clause-behind g c =
    attempt-behind g.S.Store c.args.self.now (asked_calls c.args.calls.now) c.attempt-came.result c.attempt-came.new.store c.event_count-count.result c.steps_are_retraced.ensures.steps c.requires c.event_count-count.ensures.exact
    c.event_count-count.ensures.within c.attempt-came.ensures.replays c.attempt-came.ensures.answers

pub write_since-requires-clause-prepared : goal.write_since-requires-clause-prepared
write_since-requires-clause-prepared g c = λ clean.
    attempt-prepared c.args.self.now.store (asked_calls c.args.calls.now) c.attempt-came.result c.attempt-came.new.store (written g.S.Store c.args.self.now.journal) c.args.self.now.prepared.items c.attempt-came.ensures.answers
    (c.requires.prepared clean)
