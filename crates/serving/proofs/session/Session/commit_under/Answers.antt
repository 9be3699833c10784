use Rattle.std.proofs.Common.{◌∙◌, refl, sym}
use Rattle.serving.proofs.KeptNow.{commit-kept, commits-here, commits-nobody, under-rows, unknown-kept}
use Rattle.serving.proofs.Staying.{stays-read, stays-under}
use Rattle.serving.proofs.session.Session.commit_under.Goals as goal

pub returns-clause-does : goal.returns-clause-does
returns-clause-does g c =
    commits-here g.S.Store c.args.self.now.store c.commit_under.new.self c.requires c.commit_under.ensures.clean c.args.self.now.names c.args.t c.in-Some.number c.args.key c.in_ok-came.came c.commit_under_answer.result
    (sym c.number_of.ensures ∙ c.in-Some.is) c.in_ok-came.ensures.knows c.in_ok-came.ensures.step c.commit_under_answer.ensures

pub returns-clause-keys : goal.returns-clause-keys
returns-clause-keys g c =
    commit-kept g.S.Store c.args.self.now.store c.commit_under.new.self c.requires c.commit_under.ensures.clean c.args.t c.in-Some.number c.args.key c.in_ok-came.came c.commit_under_answer.result c.in_ok-came.ensures.knows c.in_ok-came.ensures.step
    c.in_ok-came.ensures.written c.commit_under_answer.ensures

pub returns-clause-rows : goal.returns-clause-rows
returns-clause-rows g c = under-rows g.S.Store c.args.self.now.store c.commit_under.new.self c.requires c.commit_under.ensures.clean c.args.key c.in_ok-came.came c.in_ok-came.ensures.written

pub returns-clause-stays_in_epoch : goal.returns-clause-stays_in_epoch
returns-clause-stays_in_epoch g c =
    stays-under g.S.Store c.args.key c.in_ok-came.came c.args.self.now _ refl refl c.in_ok-came.ensures.sound c.commit_under.ensures.life c.in_ok-came.ensures.knows c.in_ok-came.ensures.written c.commit_under.ensures.clean c.commit_under.ensures.crash

pub returns-in_default-clause-does : goal.returns-in_default-clause-does
returns-in_default-clause-does g c =
    commits-nobody g.S.Store c.args.self.now.store c.state_of.new.self c.requires c.state_of.ensures.clean c.args.self.now.names c.args.t c.args.key c.in_ok-known.known c.unknown_under.result
    (sym c.number_of.ensures ∙ c.in_default.is) c.in_ok-known.ensures.knows c.unknown_under.ensures c.state_of.ensures.store

pub returns-in_default-clause-keys : goal.returns-in_default-clause-keys
returns-in_default-clause-keys g c =
    unknown-kept g.S.Store c.args.self.now.store c.state_of.new.self c.requires c.state_of.ensures.clean c.args.t c.args.key c.in_ok-known.known c.unknown_under.result c.in_ok-known.ensures.knows c.in_ok-known.ensures.written
    c.unknown_under.ensures

pub returns-in_default-clause-stays_in_epoch : goal.returns-in_default-clause-stays_in_epoch
returns-in_default-clause-stays_in_epoch g c =
    stays-read g.S.Store c.args.self.now _ refl refl c.in_ok-known.ensures.sound c.state_of.ensures.life c.in_ok-known.ensures.written c.state_of.ensures.clean c.state_of.ensures.crash
