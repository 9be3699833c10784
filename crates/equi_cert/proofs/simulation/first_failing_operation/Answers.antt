use Rattle.std.proofs.Common.{length, inl, inr, arith}
use Rattle.std.proofs.lemmas.Bool.{cases_lt}
use Rattle.equi_cert.specs.Relation.{relates}
use Rattle.equi_cert.proofs.Faults.{past_passes}
use Rattle.equi_cert.proofs.simulation.first_failing_operation.Goals as goal

pub returns : goal.returns
returns c = λ k.
    elim (cases_lt k (length c.args.table.now.ops)) [
      | inl below ↦ c.loop-k.invariant k (omega arith)
      | inr past ↦ past_passes c.args.table.now (relates c.args.relation.now) c.args.s c.args.t k past
    ]
