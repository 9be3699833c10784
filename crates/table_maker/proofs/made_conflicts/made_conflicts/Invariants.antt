use Rattle.std.proofs.Common.{length}
use Rattle.type_table.specs.ConflictTable.{IsSquare}
use Rattle.table_maker.proofs.FailingPairs.{AreFailingBelow}
use Rattle.table_maker.proofs.made_conflicts.made_conflicts.Given as goal

abbrev pub invariant-loop-p : goal.invariant-loop-p
invariant-loop-p l = record {
  square : IsSquare (length l.file.table.ops) l.table;
  pairs : AreFailingBelow l.condition l.file l.p l.table;
}
