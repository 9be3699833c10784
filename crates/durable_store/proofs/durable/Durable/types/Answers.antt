use Rattle.durable_store.proofs.CatchUp.{read-again}
use Rattle.durable_store.proofs.durable.Durable.types.Goals as goal

pub returns-clause-sound : goal.returns-clause-sound
returns-clause-sound g c =
    read-again g.S.Store c.args.self.now c.types.new.self c.types.result c.requires.sound c.types.ensures.kept c.types.ensures.written c.types.ensures.durable c.types.ensures.clean c.types.ensures.crash
