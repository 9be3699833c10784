use Rattle.std.proofs.Common.{◌≡◌, ℕ, ◌<◌, false}
use Rattle.equi_cert.specs.Relation.{relates}
use Rattle.equi_cert.specs.Fault.{is_fault}
use Rattle.equi_cert.proofs.simulation.first_fault.Given as goal

abbrev pub invariant-loop-s : goal.invariant-loop-s
invariant-loop-s l = (a b c : ℕ) → a < l.s → is_fault l.table (relates l.relation) a b c ≡ false
