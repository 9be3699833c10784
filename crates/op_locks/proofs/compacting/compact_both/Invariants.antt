use Rattle.op_locks.proofs.Compacts.{Compacts}
use Rattle.op_locks.proofs.compacting.compact_both.Given as goal

abbrev pub invariant-loop-i : goal.invariant-loop-i
invariant-loop-i l = Compacts l.t l.first l.initial.held l.held l.left l.count l.word l.i
