use Rattle.std.proofs.Common.{ℕ, Err, ap, subst, inl, inr}
use Rattle.serial_order.specs.declared.command.Command.TheVariants.{Rollback}
use Rattle.library_calls.specs.Calls.{IsCommandDone}
use Rattle.library_calls.specs.Codes.{number}
use Rattle.library_calls.proofs.Told.{may_done, far_done}
use Rattle.library_calls.proofs.store_calls.rollback.Goals as goal

pub returns-in-Err : goal.returns-in-Err
returns-in-Err c =
    let s = c.args.store.now in
    let w = c.args.worker in
    let n = number c.code_of.result in
    let new = c.rollback.new.self in
    let step = may_done s w (Rollback c.in-Some.t c.struck_of-n.result) (Err c.in-Err.refusal) n new c.in-Err.ensures (ap number c.code_of.ensures) in
    let here = subst (λ (t : ℕ). IsCommandDone s w (Rollback t c.struck_of-n.result) n new) c.in-Some.ensures.same step in
    elim c.struck_of-n.ensures [
      | inl same ↦ subst (λ (m : ℕ). IsCommandDone s w (Rollback c.args.transaction m) n new) same here
      | inr far ↦
          far_done s w c.args.transaction c.args.operations n new far.1
          (subst (λ (m : ℕ). IsCommandDone s w (Rollback c.args.transaction m) n new) far.0 here)
    ]
