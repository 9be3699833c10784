use Rattle.std.proofs.Common.{None}
use Rattle.declared_types.specs.Declarations.{file_of}
use Rattle.object_calls.specs.Replies.{idle_at}
use Rattle.object_calls.proofs.AnswerSearch.{IsSearched}
use Rattle.object_calls.proofs.reply.reply_of.Given as goal

abbrev pub invariant-loop-left : goal.invariant-loop-left
invariant-loop-left l = IsSearched (idle_at (file_of l.declared) l.s) 0 l.fn.asked l.left None

abbrev pub decreases-loop-left : goal.decreases-loop-left
decreases-loop-left l = l.left
