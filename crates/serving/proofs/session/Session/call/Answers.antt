use Rattle.std.proofs.Common.{◌∙◌, refl, sym}
use Rattle.serving.proofs.GivenNames.{call-does}
use Rattle.serving.proofs.Staying.{stays-by, stays-still}
use Rattle.serving.proofs.session.Session.call.Goals as goal

pub returns-clause-stays_in_epoch : goal.returns-clause-stays_in_epoch
returns-clause-stays_in_epoch g c = stays-by g.S.Store c.args.self.now _ refl refl c.in_ok-answer.ensures.sound c.call.ensures.life c.in_ok-answer.ensures.written c.call.ensures.clean c.call.ensures.crash

pub returns-in_default-clause-stays_in_epoch : goal.returns-in_default-clause-stays_in_epoch
returns-in_default-clause-stays_in_epoch g c = stays-still g.S.Store c.args.self.now c.requires

pub returns-clause-does : goal.returns-clause-does
returns-clause-does g c =
    let s = c.args.self.now in
    call-does s.names s.store.prepared.items s.store.store c.args.t c.in-Some.number c.args.x c.args.name c.as_bytes.result.now c.in_ok-answer.answer c.call_answer.result c.call.new.self.store (sym c.number_of.ensures ∙ c.in-Some.is) c.as_bytes.ensures.exact c.in_ok-answer.ensures.step
    c.call_answer.ensures
