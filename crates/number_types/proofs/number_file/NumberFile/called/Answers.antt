use Rattle.std.proofs.Common.{◌/◌, Some, sym, ap, subst, ◌∙◌}
use Rattle.std.specs.Prelude.{slice_get}
use Rattle.std.proofs.lemmas.Bool.{false≢true}
use Rattle.type_table.specs.Operation.{operation_at}
use Rattle.number_types.specs.Operations.{number_table}
use Rattle.number_types.specs.Called.{IsCalled}
use Rattle.number_types.proofs.Called.{called_itself, called_value}
use Rattle.number_types.proofs.number_file.NumberFile.called.Goals as goal

pub returns-then-reads_value : goal.returns-then-reads_value
returns-then-reads_value c =
    let v = c.args.self.now in
    let line = ap (λ place. slice_get v.calls (place / 2)) (sym c.place.ensures.exact) ∙ c.reads_value.ensures.0 c.if-reads_value.true in
    let is = c.with.ensures ∙ ap (λ place. operation_at place (Some c.args.number)) c.place-then-reads_value.ensures.exact in
    subst (IsCalled (number_table v) c.args.number c.args.c) (sym is)
    (called_value c.number_has_table.ensures v c.args.number c.args.c c.calls-calls.ensures.number c.requires.first c.requires.inside line)

pub returns-else-reads_value : goal.returns-else-reads_value
returns-else-reads_value c =
    let v = c.args.self.now in
    called_itself c.number_has_table.ensures v c.args.number c.args.c c.calls-calls.ensures.number c.requires.first
    (λ value. false≢true (sym c.if-reads_value.false ∙ c.reads_value.ensures.1 (ap (λ place. slice_get v.calls (place / 2)) c.place.ensures.exact ∙ value)))
