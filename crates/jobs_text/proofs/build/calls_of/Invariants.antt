-- The calls so far come before those that are still to come.
use Rattle.std.proofs.Common.{◌≡◌, ◌++◌, drop}
use Rattle.jobs_text.specs.Jobs.{calls_before_job}
use Rattle.jobs_text.proofs.build.calls_of.Given as goal

abbrev pub invariant-loop-line : goal.invariant-loop-line
invariant-loop-line l = l.calls.items ++ calls_before_job (drop l.line-index l.lines) ≡ calls_before_job l.lines
