use Rattle.durable_store.proofs.CatchUp.{caught-up, last-ones}
use Rattle.durable_store.proofs.durable.Durable.write_since.Goals as goal

pub returns-clause-sound : goal.returns-clause-sound
returns-clause-sound g c =
    caught-up g.S.Store c.args.self.now c.args.count c.append_all.new.journal _ c.append_all.result c.requires.behind c.requires.prepared
    (last-ones c.args.self.now.store.history c.history-remembered.result.now c.args.self.now.store.forgotten c.args.count c.event_count.result
    c.history-remembered.ensures.exact c.event_count.ensures.exact c.requires.behind.remembered c.requires.behind.inside)
    c.append_all.ensures.kept c.append_all.ensures.written c.append_all.ensures.durable c.append_all.ensures.clean c.append_all.ensures.crash
