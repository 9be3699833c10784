use Rattle.type_table.specs.ConflictTable.{IsSquare}
use Rattle.exact_tables.proofs.AlikePairs.{AreAlikeBelow}
use Rattle.exact_tables.proofs.distances.Distances.relation.Given as goal

abbrev pub invariant-loop-s : goal.invariant-loop-s
invariant-loop-s l = record {
  square : IsSquare l.self.states l.relation;
  pairs : AreAlikeBelow l.self l.s l.initial.relation l.relation;
}
