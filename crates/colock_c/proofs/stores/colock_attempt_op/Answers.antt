use Rattle.std.proofs.Common.{◌≡◌, ℕ, Some, sym, ap, subst, ◌∙◌}
use Rattle.store_laws.specs.Stored.{Stored}
use Rattle.library_calls.specs.Codes.{number}
use Rattle.library_calls.specs.Holding.{store_at}
use Rattle.library_calls.specs.NumberedAttempts.{IsAttemptedByNumbers}
use Rattle.colock_c.specs.Calls.{AttemptsNumbers}
use Rattle.colock_c.proofs.Becoming.{becomes}
use Rattle.colock_c.proofs.stores.colock_attempt_op.Goals as goal

pub returns-clause-attempts : goal.returns-clause-attempts
returns-clause-attempts c =
    let a = c.args in
    let did = c.attempt_numbers-code in
    let n = number did.result in
    let there : store_at a.slot.now.handle.held ≡ Some c.store.result.now =
    ap store_at (c.in-Some.ensures.1 ∙ ap Some (sym c.deref_mut.ensures.value)) ∙ c.store.ensures.is in
    subst (λ (m : ℕ). AttemptsNumbers a.slot.now.handle.held a.worker a.objects.now a.calls.now a.operations.now m did.new.room did.new.outcome c.put.new.self.handle.held) (sym c.number-2.ensures)
    (becomes (λ (s later : Stored). IsAttemptedByNumbers s a.worker a.objects.now a.calls.now a.operations.now n did.new.room did.new.outcome later)
    a.slot.now.handle.held c.put.new.self.handle.held n c.store.result.now did.new.store there c.put.ensures did.ensures.attempted)
