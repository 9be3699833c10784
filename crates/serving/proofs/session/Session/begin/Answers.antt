use Rattle.std.proofs.Common.{refl}
use Rattle.serving.proofs.Staying.{stays-by, stays-still}
use Rattle.serving.proofs.session.Session.begin.Goals as goal

pub returns-in-Ok-clause-stays_in_epoch : goal.returns-in-Ok-clause-stays_in_epoch
returns-in-Ok-clause-stays_in_epoch g c = stays-by g.S.Store c.args.self.now _ refl refl c.in_ok-number.ensures.sound c.begin.ensures.life c.in_ok-number.ensures.written c.begin.ensures.clean c.begin.ensures.crash

pub returns-in-Err-clause-stays_in_epoch : goal.returns-in-Err-clause-stays_in_epoch
returns-in-Err-clause-stays_in_epoch g c = stays-by g.S.Store c.args.self.now _ refl refl c.in_ok-number.ensures.sound c.begin.ensures.life c.in_ok-number.ensures.written c.begin.ensures.clean c.begin.ensures.crash

pub returns-then-is_full-clause-stays_in_epoch : goal.returns-then-is_full-clause-stays_in_epoch
returns-then-is_full-clause-stays_in_epoch g c = stays-still g.S.Store c.args.self.now c.requires
