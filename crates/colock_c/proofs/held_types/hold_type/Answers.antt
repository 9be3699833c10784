use Rattle.std.proofs.Common.{refl, ap, inl, inr}
use Rattle.library_calls.specs.Codes.{number}
use Rattle.library_calls.specs.Holding.{type_at}
use Rattle.colock_c.specs.Types.{accepted, not_accepted, memory_refused}
use Rattle.colock_c.proofs.held_types.hold_type.Goals as goal

pub returns-in-Ok : goal.returns-in-Ok
returns-in-Ok c =
    elim c.hold.ensures [
      | inl done ↦ accepted c.args.file c.in-Ok.checked.value refl c.in-Ok.ensures.accepted.0 (ap number done.0) c.in-Ok.ensures.accepted.1 (ap type_at done.1)
      | inr none ↦ memory_refused (ap number none.0) c.in-Ok.ensures.accepted.1 none.1
    ]

pub returns-in-Err : goal.returns-in-Err
returns-in-Err c =
    elim c.in-Err.ensures.refused [
      | inl memory ↦ memory_refused (ap number memory.0) memory.1 c.requires
      | inr why ↦ not_accepted c.args.file refl why c.requires
    ]
