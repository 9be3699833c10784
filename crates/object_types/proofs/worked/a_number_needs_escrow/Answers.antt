use Rattle.std.proofs.Common.{◌≡◌, refl}
use Rattle.type_table.specs.declared.kind.Kind.TheVariants.{Undo, Escrow}
use Rattle.number_types.specs.Examples.{five}
use Rattle.declared_types.specs.declared.declared_type.Declaration.TheVariants.{Number as Numbers}
use Rattle.object_types.proofs.worked.a_number_needs_escrow.Goals as goal

pub returns-clause-number : goal.returns-clause-number
returns-clause-number c = (Numbers five, refl, (refl, λ escrow. let clash : Undo ≡ Escrow = escrow in cc))
