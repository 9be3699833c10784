use Rattle.std.proofs.Common.{◌∙◌, refl, sym, ap₂, subst}
use Rattle.journal.specs.Journal.{Clean, written}
use Rattle.attempts.specs.Commands.{asked_calls}
use Rattle.durable_store.specs.Keys.{IsInState, KnowsKey}
use Rattle.serving.specs.Does.{is_epoch_full}
use Rattle.serving.specs.Server.{begins_until}
use Rattle.serving.specs.Several.{InTurn, IsCallAt}
use Rattle.serving.proofs.Attempts.{draining-does, under-does}
use Rattle.serving.proofs.KeptNow.{do-kept, draining-kept, of-now, under-rows}
use Rattle.serving.proofs.Staying.{stays-read, stays-under}
use Rattle.serving.proofs.session.Session.attempt_under.Goals as goal

pub returns-clause-does : goal.returns-clause-does
returns-clause-does g c =
    let s = c.args.self.now in
    under-does c.attempt_under.ensures.clean (begins_until s) s.names (written g.S.Store s.store.journal) s.store.store c.args.calls.now c.args.key (asked_calls c.deref.result.now) c.in_ok-came.came c.do_under_answer.result c.attempt_under.new.self.store
    (ap₂ is_epoch_full (sym c.limit-limit.ensures) (sym c.store.ensures) ∙ sym c.is_full.ensures ∙ c.if-is_full.false)
    (subst (λ calls. InTurn (IsCallAt (Clean g.S.Store s.store.journal) (written g.S.Store s.store.journal).objects) c.args.calls.now (asked_calls calls)) (sym c.deref.ensures.value) c.in_ok-made.ensures)
    (of-now g.S.Store s.store c.attempt_under.new.self c.requires c.attempt_under.ensures.clean (λ x. KnowsKey x c.args.key c.in_ok-came.came) c.in_ok-came.ensures.knows) c.in_ok-came.ensures.does
    c.do_under_answer.ensures

pub returns-clause-stays_in_epoch : goal.returns-clause-stays_in_epoch
returns-clause-stays_in_epoch g c =
    stays-under g.S.Store c.args.key c.in_ok-came.came c.args.self.now _ refl refl c.in_ok-came.ensures.sound c.attempt_under.ensures.life c.in_ok-came.ensures.knows c.in_ok-came.ensures.written c.attempt_under.ensures.clean c.attempt_under.ensures.crash

pub returns-clause-keys : goal.returns-clause-keys
returns-clause-keys g c =
    let s = c.args.self.now in
    do-kept g.S.Store s.store c.attempt_under.new.self c.requires c.attempt_under.ensures.clean s.names (asked_calls c.deref.result.now) c.args.key c.in_ok-came.came c.do_under_answer.result c.in_ok-came.ensures.knows
    c.in_ok-came.ensures.does c.in_ok-came.ensures.written
    c.do_under_answer.ensures

pub returns-clause-rows : goal.returns-clause-rows
returns-clause-rows g c = under-rows g.S.Store c.args.self.now.store c.attempt_under.new.self c.requires c.attempt_under.ensures.clean c.args.key c.in_ok-came.came c.in_ok-came.ensures.written

pub returns-then-is_full-clause-does : goal.returns-then-is_full-clause-does
returns-then-is_full-clause-does g c =
    let s = c.args.self.now in
    draining-does (begins_until s) s.names (written g.S.Store s.store.journal) s.store.store c.args.calls.now c.args.key c.in_ok-known.known c.draining_under.result c.state_of.new.self.store
    (ap₂ is_epoch_full (sym c.limit-limit.ensures) (sym c.store.ensures) ∙ sym c.is_full.ensures ∙ c.if-is_full.true)
    (of-now g.S.Store s.store c.state_of.new.self c.requires c.state_of.ensures.clean (λ x. IsInState x c.args.key c.in_ok-known.known) c.in_ok-known.ensures.knows) c.draining_under.ensures c.state_of.ensures.store

pub returns-then-is_full-clause-keys : goal.returns-then-is_full-clause-keys
returns-then-is_full-clause-keys g c =
    draining-kept g.S.Store c.args.self.now.store c.state_of.new.self c.requires c.state_of.ensures.clean c.args.key c.in_ok-known.known c.draining_under.result c.in_ok-known.ensures.knows c.in_ok-known.ensures.written
    c.draining_under.ensures

pub returns-then-is_full-clause-stays_in_epoch : goal.returns-then-is_full-clause-stays_in_epoch
returns-then-is_full-clause-stays_in_epoch g c =
    stays-read g.S.Store c.args.self.now _ refl refl c.in_ok-known.ensures.sound c.state_of.ensures.life c.in_ok-known.ensures.written c.state_of.ensures.clean c.state_of.ensures.crash
