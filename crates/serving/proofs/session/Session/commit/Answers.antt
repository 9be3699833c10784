use Rattle.std.proofs.Common.{refl}
use Rattle.serving.proofs.Staying.{stays-by, stays-still}
use Rattle.serving.proofs.session.Session.commit.Goals as goal

pub returns-clause-stays_in_epoch : goal.returns-clause-stays_in_epoch
returns-clause-stays_in_epoch g c = stays-by g.S.Store c.args.self.now _ refl refl c.in_ok-ended.ensures.sound c.commit.ensures.life c.in_ok-ended.ensures.written c.commit.ensures.clean c.commit.ensures.crash

pub returns-in_default-clause-stays_in_epoch : goal.returns-in_default-clause-stays_in_epoch
returns-in_default-clause-stays_in_epoch g c = stays-still g.S.Store c.args.self.now c.requires
