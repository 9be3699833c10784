use Rattle.std.proofs.Common.{◌≡◌, subst}
use Rattle.number_types.specs.Number.{Number}
use Rattle.declared_types.specs.Declarations.{number_file}
use Rattle.type_table.specs.declared.kind.Kind.TheVariants.{Escrow}
use Rattle.library_calls.specs.Codes.{number}
use Rattle.library_calls.specs.declared.words.ColockFault.{ColockFault}
use Rattle.colock_c.specs.Types.{MakesType}
use Rattle.colock_c.proofs.held_types.hold_copy.Goals as goal

pub returns-in-Ok : goal.returns-in-Ok
returns-in-Ok c =
    subst (λ (v : Number). (was : ColockFault) → MakesType (λ f. f ≡ number_file v) (λ n words. ⊥) Escrow was (number c.hold_number.result) was c.hold_number.new.slot.handle.held)
    c.in-Ok.ensures c.hold_number.ensures
