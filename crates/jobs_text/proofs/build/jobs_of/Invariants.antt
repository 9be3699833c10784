-- The jobs so far are those that the lines so far open.
use Rattle.jobs_text.proofs.Adding.{AreSoFar}
use Rattle.jobs_text.proofs.build.jobs_of.Given as goal

abbrev pub invariant-loop-position : goal.invariant-loop-position
invariant-loop-position l = AreSoFar l.workers l.lines l.position l.lists.items
