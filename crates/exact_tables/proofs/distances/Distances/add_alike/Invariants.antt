use Rattle.type_table.specs.ConflictTable.{IsSquare}
use Rattle.exact_tables.specs.Distances.{AddsAlike}
use Rattle.exact_tables.proofs.distances.Distances.add_alike.Given as goal

abbrev pub invariant-loop-t : goal.invariant-loop-t
invariant-loop-t l = record {
  square : IsSquare l.self.states l.relation;
  pairs : AddsAlike l.self l.s l.t l.initial.relation l.relation;
}
