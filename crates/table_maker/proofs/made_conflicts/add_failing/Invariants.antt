use Rattle.std.proofs.Common.{length}
use Rattle.type_table.specs.ConflictTable.{IsSquare}
use Rattle.table_maker.specs.MadeConflicts.{AddsFailing}
use Rattle.table_maker.proofs.made_conflicts.add_failing.Given as goal

abbrev pub invariant-loop-q : goal.invariant-loop-q
invariant-loop-q l = record {
  square : IsSquare (length l.file.table.ops) l.table;
  pairs : AddsFailing l.condition l.file l.p l.q l.initial.table l.table;
}
