use Rattle.std.proofs.Common.{◌∙◌, refl, sym}
use Rattle.serving.specs.Prepared.{prepared_as}
use Rattle.serving.proofs.KeptNow.{vote-added, vote-kept, votes-here, votes-nobody}
use Rattle.serving.proofs.Staying.{stays-still, stays-vote}
use Rattle.serving.proofs.session.Session.prepare.Goals as goal

pub returns-clause-does : goal.returns-clause-does
returns-clause-does g c =
    votes-here g.S.Store c.args.self.now.store c.prepare.new.self c.requires c.prepare.ensures.clean c.args.self.now.names c.args.t c.in-Some.number c.args.key c.args.until c.in_ok-vote.vote c.vote_answer.result
    (sym c.number_of.ensures ∙ c.in-Some.is) c.in_ok-vote.ensures.votes c.vote_answer.ensures c.in_ok-vote.ensures.store

pub returns-clause-keys : goal.returns-clause-keys
returns-clause-keys g c =
    vote-kept g.S.Store c.args.self.now.store c.prepare.new.self c.requires c.prepare.ensures.clean (prepared_as c.args.t c.in-Some.number c.args.key c.args.until) c.in_ok-vote.vote c.in_ok-vote.ensures.votes

pub returns-clause-rows : goal.returns-clause-rows
returns-clause-rows g c =
    vote-added g.S.Store c.args.self.now.store c.prepare.new.self c.requires c.prepare.ensures.clean c.args.self.now.names c.args.t c.in-Some.number c.args.key c.args.until c.in_ok-vote.vote c.vote_answer.result
    (sym c.number_of.ensures ∙ c.in-Some.is) c.in_ok-vote.ensures.votes c.vote_answer.ensures

pub returns-clause-stays_in_epoch : goal.returns-clause-stays_in_epoch
returns-clause-stays_in_epoch g c =
    stays-vote g.S.Store (prepared_as c.args.t c.in-Some.number c.args.key c.args.until) c.in_ok-vote.vote c.args.self.now _ refl refl c.in_ok-vote.ensures.sound c.prepare.ensures.life c.in_ok-vote.ensures.votes c.prepare.ensures.clean c.prepare.ensures.crash

pub returns-in_default-clause-does : goal.returns-in_default-clause-does
returns-in_default-clause-does g c =
    let s = c.args.self.now in
    votes-nobody g.S.Store s.store s.store c.requires (λ now. now) s.names c.args.t c.args.key c.args.until c.not_open.result (sym c.number_of.ensures ∙ c.in_default.is) c.not_open.ensures refl

pub returns-in_default-clause-stays_in_epoch : goal.returns-in_default-clause-stays_in_epoch
returns-in_default-clause-stays_in_epoch g c = stays-still g.S.Store c.args.self.now c.requires
