use Rattle.serving.proofs.Staying.{stays-still}
use Rattle.serving.proofs.session.Session.answer.Goals as goal

pub returns-in-Err-clause-stays_in_epoch : goal.returns-in-Err-clause-stays_in_epoch
returns-in-Err-clause-stays_in_epoch g c = stays-still g.S.Store c.args.self.now c.requires
