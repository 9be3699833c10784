use Rattle.std.proofs.Common.{◌≡◌, drop}
use Rattle.exact_tables.specs.Tell.{comes_before}
use Rattle.pair_needs.proofs.ends.comes_before.Given as goal

abbrev pub invariant-loop-place : goal.invariant-loop-place
invariant-loop-place l = comes_before l.v l.w ≡ comes_before (drop l.place l.v) (drop l.place l.w)
