use Rattle.std.proofs.Common.{refl, subst}
use Rattle.journal.specs.Journal.{Clean, written}
use Rattle.durable_store.specs.Votes.{Decides}
use Rattle.serving.specs.Prepared.{decision_of}
use Rattle.serving.proofs.KeptNow.{decision-does, decision-kept, decision-rows}
use Rattle.serving.proofs.Staying.{stays-decision}
use Rattle.serving.proofs.session.Session.decide.Goals as goal

pub returns-clause-does : goal.returns-clause-does
returns-clause-does g c =
    let s = c.args.self.now.store in
    let new = c.decide.new.self in
    decision-does g.S.Store s new c.requires c.decide.ensures.clean c.args.key (decision_of c.args.decision) c.in_ok-verdict.verdict c.verdict_answer.result
    (subst (λ d. Clean g.S.Store new.journal → Decides s.store new.store (written g.S.Store s.journal) (written g.S.Store new.journal) c.args.key d c.in_ok-verdict.verdict) c.decision_of.ensures c.in_ok-verdict.ensures.decides)
    c.verdict_answer.ensures

pub returns-clause-keys : goal.returns-clause-keys
returns-clause-keys g c =
    let s = c.args.self.now.store in
    let new = c.decide.new.self in
    decision-kept g.S.Store s new c.requires c.decide.ensures.clean c.args.key c.args.decision c.in_ok-verdict.verdict c.verdict_answer.result
    (subst (λ d. Clean g.S.Store new.journal → Decides s.store new.store (written g.S.Store s.journal) (written g.S.Store new.journal) c.args.key d c.in_ok-verdict.verdict) c.decision_of.ensures c.in_ok-verdict.ensures.decides)
    c.verdict_answer.ensures

pub returns-clause-rows : goal.returns-clause-rows
returns-clause-rows g c =
    let s = c.args.self.now.store in
    let new = c.decide.new.self in
    decision-rows g.S.Store s new c.requires c.decide.ensures.clean c.args.key c.args.decision c.in_ok-verdict.verdict
    (subst (λ d. Clean g.S.Store new.journal → Decides s.store new.store (written g.S.Store s.journal) (written g.S.Store new.journal) c.args.key d c.in_ok-verdict.verdict) c.decision_of.ensures c.in_ok-verdict.ensures.decides)

pub returns-clause-stays_in_epoch : goal.returns-clause-stays_in_epoch
returns-clause-stays_in_epoch g c =
    stays-decision g.S.Store c.args.key c.decision_of.result c.in_ok-verdict.verdict c.args.self.now _ refl refl c.requires c.in_ok-verdict.ensures.sound c.decide.ensures.life c.in_ok-verdict.ensures.decides c.decide.ensures.clean
    c.decide.ensures.crash
