use Rattle.std.proofs.Common.{ℕ, [], ◌∷◌, subst, sym}
use Rattle.store_laws.specs.Stored.{objects}
use Rattle.attempts.specs.Made.{AreDone}
use Rattle.attempts.specs.Numbered.{named_call}
use Rattle.library_calls.proofs.Attempted.{of-done}
use Rattle.library_calls.proofs.Numbered.{same_number}
use Rattle.library_calls.proofs.one_call.do_number.Goals as goal

pub returns-in-Some-do_call_op-clause-done : goal.returns-in-Some-do_call_op-clause-done
returns-in-Some-do_call_op-clause-done c = λ done.
    let s = c.args.store.now in
    let k = c.in-Some-do_call_op.k in
    of-done s c.do_call_op.new.store c.args.worker (named_call (objects s) c.args.x c.args.c ∷ []) c.args.room.now c.tell_done.new.outcome k c.tell_done.new.room
    (subst (λ (n : ℕ). AreDone s c.args.worker (named_call (objects s) c.args.x n ∷ []) (k ∷ []) c.do_call_op.new.store) (same_number c.args.c c.in-Some.c (sym c.in-Some.ensures)) c.in-Some-do_call_op.ensures)
    c.tell_done.ensures.operation c.tell_done.ensures.told
