-- The objects so far have their tables.
use Rattle.std.proofs.Common.{map, take}
use Rattle.declared_types.specs.Declarations.{table_of}
use Rattle.store_files.specs.Types.{AreTablesOf}
use Rattle.store_files.proofs.tables.declared_for.Given as goal

abbrev pub invariant-loop-x : goal.invariant-loop-x
invariant-loop-x l = AreTablesOf l.declared (take l.x l.objects) (map (λ t. table_of t.now) l.types.items)
