-- The start is what was handed in.
use Rattle.std.proofs.Common.{map}
use Rattle.jobs_text.specs.Jobs.{calls_in}
use Rattle.workers.proofs.drawn.stress.Given as goal

abbrev pub ghosts-stress_from_start : goal.ghosts-stress_from_start
ghosts-stress_from_start g a = record { start = record { store = a.store; jobs = map calls_in a.jobs.items; tries = a.tries } }
