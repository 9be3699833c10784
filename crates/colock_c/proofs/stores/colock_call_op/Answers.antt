use Rattle.std.proofs.Common.{◌≡◌, ℕ, List, Some, slice_get, sym, ap, subst, ◌∙◌}
use Rattle.serial_order.specs.Replay.{call_at}
use Rattle.serial_order.specs.declared.command.Command.TheVariants.{Call}
use Rattle.store_laws.specs.Stored.{objects}
use Rattle.library_calls.specs.Calls.{IsCommandDone, IsUnnumbered}
use Rattle.library_calls.specs.Codes.{number}
use Rattle.library_calls.specs.Holding.{store_at}
use Rattle.colock_c.specs.Calls.{DoesNumbered}
use Rattle.colock_c.proofs.Becoming.{becomes}
use Rattle.colock_c.proofs.stores.colock_call_op.Goals as goal

pub returns-clause-step : goal.returns-clause-step
returns-clause-step c =
    let a = c.args in
    let n = number c.call_op-code.result in
    let there : store_at a.slot.now.handle.held ≡ Some c.store.result.now =
    ap store_at (c.in-Some.ensures.1 ∙ ap Some (sym c.deref_mut.ensures.value)) ∙ c.store.ensures.is in
    subst (λ (m : ℕ). DoesNumbered a.slot.now.handle.held a.worker a.transaction a.x a.c m c.put.new.self.handle.held) (sym c.number-2.ensures)
    (becomes
    (λ s later. ((name : List ℕ) → call_at (slice_get (objects s) a.x) name ≡ Some a.c → IsCommandDone s a.worker (Call a.transaction a.x name) n later) × IsUnnumbered s a.transaction a.x a.c n later)
    a.slot.now.handle.held c.put.new.self.handle.held n c.store.result.now c.call_op-code.new.store there c.put.ensures
    (c.call_op-code.ensures.step, c.call_op-code.ensures.unnumbered))
