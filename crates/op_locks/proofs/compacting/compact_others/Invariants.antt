use Rattle.op_locks.proofs.Compacts.{Compacts}
use Rattle.op_locks.proofs.compacting.compact_others.Given as goal

abbrev pub invariant-loop-i : goal.invariant-loop-i
invariant-loop-i l = Compacts l.t 0 l.initial.held l.held 0 l.count l.word l.i
