use Rattle.std.proofs.Common.{◌≡◌, ℕ, ◌<◌, false}
use Rattle.type_table.specs.Table.{next}
use Rattle.equi_cert.specs.Relation.{relates}
use Rattle.equi_cert.specs.Fault.{leads_outside}
use Rattle.equi_cert.proofs.simulation.first_failing_operation.Given as goal

abbrev pub invariant-loop-k : goal.invariant-loop-k
invariant-loop-k l = (c : ℕ) → c < l.k → leads_outside (relates l.relation) (next l.table l.s c) (next l.table l.t c) ≡ false
