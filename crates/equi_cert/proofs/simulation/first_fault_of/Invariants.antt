use Rattle.std.proofs.Common.{◌≡◌, ℕ, ◌<◌, false}
use Rattle.equi_cert.specs.Relation.{relates}
use Rattle.equi_cert.specs.Fault.{is_fault}
use Rattle.equi_cert.proofs.simulation.first_fault_of.Given as goal

abbrev pub invariant-loop-t : goal.invariant-loop-t
invariant-loop-t l = (b c : ℕ) → b < l.t → is_fault l.table (relates l.relation) l.s b c ≡ false
