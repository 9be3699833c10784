use Rattle.std.proofs.Common.{refl}
use Rattle.serving.proofs.KeptNow.{outcome-does}
use Rattle.serving.proofs.Staying.{stays-read}
use Rattle.serving.proofs.session.Session.outcome.Goals as goal

pub returns-clause-does : goal.returns-clause-does
returns-clause-does g c =
    outcome-does g.S.Store c.args.self.now.store c.state_of.new.self c.requires c.state_of.ensures.clean c.args.key c.in_ok-known.known c.outcome_answer.result c.in_ok-known.ensures.knows c.outcome_answer.ensures
    c.state_of.ensures.store

pub returns-clause-stays_in_epoch : goal.returns-clause-stays_in_epoch
returns-clause-stays_in_epoch g c =
    stays-read g.S.Store c.args.self.now _ refl refl c.in_ok-known.ensures.sound c.state_of.ensures.life c.in_ok-known.ensures.written c.state_of.ensures.clean c.state_of.ensures.crash
