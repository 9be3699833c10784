use Rattle.std.proofs.Common.{◌≡◌, refl, sym, ◌∙◌}
use Rattle.type_table.specs.declared.kind.Kind.TheVariants.{Escrow}
use Rattle.declared_types.specs.Declarations.{number_file}
use Rattle.committed_reads.proofs.StillCalls.{number-call}
use Rattle.committed_reads.proofs.still_operations.is_still_call.Goals as goal

pub returns-in-Number : goal.returns-in-Number
returns-in-Number c =
    let checked = c.args.checked.now in
    let v = c.in-Number.number in
    let kind : checked.kind ≡ Escrow = rw (← c.declaration.ensures, c.in-Number.is) at c.declared.ensures.kind in
    let file : checked.file ≡ number_file v = rw (← c.declared.ensures.exact, ← c.declaration.ensures, c.in-Number.is) refl in
    let both = number-call c.number_tells_bounds.ensures checked v kind file c.calls-calls.ensures.number c.args.c c.requires in (
      λ passes. both.0 (sym c.is_still.ensures ∙ passes),
      λ all. c.is_still.ensures ∙ both.1 all,
    )
