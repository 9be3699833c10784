use Rattle.std.proofs.Common.{◌∙◌, subst}
use Rattle.type_table.specs.Kind.{of_table}
use Rattle.type_table.specs.declared.table_kind.TableKind.{TableKind}
use Rattle.type_table.specs.declared.table_kind.TableKind.TheVariants.{Undo, Intentions}
use Rattle.declared_types.specs.Declarations.{IsByTable}
use Rattle.library_calls.proofs.type_parts.is_in_table.Goals as goal

-- a kind of a conflict table is one whose types are declared by tables
is_by_table : (kind : TableKind) → IsByTable (of_table kind)
is_by_table Undo = tt
is_by_table Intentions = tt

pub conflicts-requires : goal.conflicts-requires
conflicts-requires c = subst IsByTable (c.in-Some.ensures.back ∙ c.kind.ensures) (is_by_table c.in-Some.kind)
