use Rattle.std.proofs.Common.{ℕ, ◌<◌, ◌≡◌, Some}
use Rattle.std.specs.List.{slice_get}
use Rattle.pair_needs.specs.Needs.{FailsStronglyAt}
use Rattle.pair_needs.specs.declared.leads.Lead.{Lead}
use Rattle.pair_needs.proofs.need.fails_strongly_in_run.Given as goal

abbrev pub invariant-loop-place : goal.invariant-loop-place
invariant-loop-place l = (i : ℕ) (m : Lead) → i < l.place → slice_get l.leads i ≡ Some m → FailsStronglyAt l.pair.kind l.table l.pair.p l.pair.q m.state → ⊥
