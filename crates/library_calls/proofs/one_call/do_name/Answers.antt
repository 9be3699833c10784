use Rattle.std.proofs.Common.{[], ◌∷◌}
use Rattle.library_calls.proofs.Attempted.{of-done}
use Rattle.library_calls.proofs.one_call.do_name.Goals as goal

pub returns-in-Some-clause-done : goal.returns-in-Some-clause-done
returns-in-Some-clause-done c = λ done.
    of-done c.args.store.now c.do_call.new.store c.args.worker ((c.args.x, c.args.name.now) ∷ []) c.args.room.now c.tell_done.new.outcome c.in-Some.k c.tell_done.new.room c.in-Some.ensures
    c.tell_done.ensures.operation c.tell_done.ensures.told
