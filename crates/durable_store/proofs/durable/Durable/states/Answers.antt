use Rattle.durable_store.proofs.CatchUp.{read-again}
use Rattle.durable_store.proofs.durable.Durable.states.Goals as goal

pub returns-clause-sound : goal.returns-clause-sound
returns-clause-sound g c =
    read-again g.S.Store c.args.self.now c.states.new.self c.states.result c.requires.sound c.states.ensures.kept c.states.ensures.written c.states.ensures.durable c.states.ensures.clean c.states.ensures.crash
