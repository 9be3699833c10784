use Rattle.serving.proofs.ServedBytes.{stays-put}
use Rattle.serving.proofs.server.Server.settle_lasting.Goals as goal

pub returns-else-has_lasting-clause-stays_in_epoch : goal.returns-else-has_lasting-clause-stays_in_epoch
returns-else-has_lasting-clause-stays_in_epoch g c = stays-put c.args.self.now.session c.requires
