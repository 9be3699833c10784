use Rattle.durable_store.proofs.CatchUp.{read-again}
use Rattle.durable_store.proofs.durable.Durable.objects.Goals as goal

pub returns-clause-sound : goal.returns-clause-sound
returns-clause-sound g c =
    read-again g.S.Store c.args.self.now c.objects.new.self c.objects.result c.requires.sound c.objects.ensures.kept c.objects.ensures.written c.objects.ensures.durable c.objects.ensures.clean c.objects.ensures.crash
