use Rattle.std.proofs.Common.{◌∙◌, sym, ap₂, subst}
use Rattle.journal.specs.Journal.{Clean, written}
use Rattle.attempts.specs.Commands.{asked_calls}
use Rattle.serving.specs.Does.{is_epoch_full}
use Rattle.serving.specs.Several.{InTurn, IsCallAt}
use Rattle.serving.proofs.Results.{if-ok}
use Rattle.serving.proofs.Staying.{stays-still}
use Rattle.serving.proofs.session.Session.attempt.Goals as goal

pub returns-clause-does : goal.returns-clause-does
returns-clause-does g c =
    let s = c.args.self.now in
    if-ok c.attempt_at-2.result (λ a does. does c.args.calls.now
    (subst (λ calls. InTurn (IsCallAt (Clean g.S.Store s.store.journal) (written g.S.Store s.store.journal).objects) c.args.calls.now (asked_calls calls)) (sym c.deref.ensures.value) c.in_ok-made.ensures)
    (ap₂ is_epoch_full (sym c.limit-limit.ensures) (sym c.store.ensures) ∙ sym c.is_full.ensures ∙ c.if-is_full.false))
    c.attempt_at-2.ensures.does

pub returns-then-is_full-clause-stays_in_epoch : goal.returns-then-is_full-clause-stays_in_epoch
returns-then-is_full-clause-stays_in_epoch g c = stays-still g.S.Store c.args.self.now c.requires
