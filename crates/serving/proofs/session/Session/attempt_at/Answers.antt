use Rattle.std.proofs.Common.{refl, subst}
use Rattle.journal.specs.Journal.{written}
use Rattle.attempts.specs.Commands.{asked_calls}
use Rattle.serving.specs.Server.{begins_until}
use Rattle.serving.specs.Several.{TellsAttempt}
use Rattle.serving.proofs.Attempts.{attempt-does}
use Rattle.serving.proofs.Staying.{stays-by}
use Rattle.serving.proofs.session.Session.attempt_at.Goals as goal

pub returns-clause-does : goal.returns-clause-does
returns-clause-does g c asked are_made full =
    let s = c.args.self.now in
    attempt-does c.in_ok-came.ensures.clean (begins_until s) s.names (written g.S.Store s.store.journal).objects s.store.store asked (asked_calls c.args.calls.now) c.in_ok-came.came c.in_ok-answer.answer c.attempt.new.self.store
    full are_made c.in_ok-came.ensures.replays c.in_ok-came.ensures.answers
    (subst (λ store. TellsAttempt store s.names (asked_calls c.args.calls.now) c.in_ok-came.came c.in_ok-answer.answer) c.store.ensures c.in_ok-answer.ensures)

pub returns-clause-stays_in_epoch : goal.returns-clause-stays_in_epoch
returns-clause-stays_in_epoch g c = stays-by g.S.Store c.args.self.now _ refl refl c.in_ok-came.ensures.sound c.attempt.ensures.life c.in_ok-came.ensures.written c.attempt.ensures.clean c.attempt.ensures.crash
