use Rattle.object_calls.proofs.AnswerChoice.{IsChosen}
use Rattle.object_calls.proofs.answer.choose_of.Given as goal

abbrev pub invariant-loop-left : goal.invariant-loop-left
invariant-loop-left g l = IsChosen (g.R.Recovery.meaning l.object) l.t l.fn.asked l.left l.blocker

abbrev pub decreases-loop-left : goal.decreases-loop-left
decreases-loop-left g l = l.left
