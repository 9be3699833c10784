use Rattle.std.proofs.Common.{ap, ◌∙◌, set}
use Rattle.library_calls.proofs.Attempted.{put-first}
use Rattle.library_calls.proofs.one_call.tell_done.Goals as goal

pub returns-clause-operation : goal.returns-clause-operation
returns-clause-operation c = ap (set c.args.room.now 0) c.number_of.ensures ∙ put-first c.args.room.now c.args.k c.requires
