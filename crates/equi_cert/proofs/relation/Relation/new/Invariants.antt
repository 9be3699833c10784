use Rattle.equi_cert.specs.Bits.{HaveCells}
use Rattle.equi_cert.proofs.Cells.{IsDiagonal}
use Rattle.equi_cert.proofs.relation.Relation.new.Given as goal

abbrev pub invariant-loop-s : goal.invariant-loop-s
invariant-loop-s l = HaveCells l.states l.words.items × IsDiagonal l.states l.words.items l.s
