-- As many lines as were passed are `do` lines, and the others are still to be counted.
use Rattle.std.proofs.Common.{◌≡◌, ◌+◌, length, drop}
use Rattle.jobs_text.specs.Jobs.{calls_before_job}
use Rattle.jobs_text.proofs.build.call_count.Given as goal

abbrev pub invariant-loop-position : goal.invariant-loop-position
invariant-loop-position l = l.position + length (calls_before_job (drop l.position l.lines)) ≡ length (calls_before_job l.lines)
