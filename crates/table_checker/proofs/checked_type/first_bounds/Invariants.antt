use Rattle.std.proofs.Common.{◌≡◌, length}
use Rattle.type_table.specs.declared.kind.Kind.TheVariants.{Escrow}
use Rattle.table_checker.specs.Declarations.{HoldsBounds}
use Rattle.declared_types.specs.declared.declared_type.Declaration.TheVariants.{Number as Numbers}
use Rattle.table_checker.proofs.checked_type.first_bounds.Given as goal

abbrev pub invariant-loop-place : goal.invariant-loop-place
invariant-loop-place l = (length l.bounds ≡ l.place) × HoldsBounds Escrow (Numbers l.number) l.bounds
