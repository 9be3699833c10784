use Rattle.std.proofs.Common.{ap, ◌∙◌}
use Rattle.std.specs.Prelude.{option_map}
use Rattle.journal.specs.declared.outcome_row.KeptOutcome.{KeptOutcome}
use Rattle.journal.specs.OutcomeIndex.{awaiting_from, kept_from}
use Rattle.journal.specs.Outcomes.{staying_from}
use Rattle.journal.proofs.journal.Journal.outcome.Goals as goal

pub returns-clause-found : goal.returns-clause-found
returns-clause-found g c = λ clean.
    let it = c.args.self.now in
    let rows = (g.S.Store.view it.store).trees 6 in
    c.staying.ensures
    ∙ ap (λ k. option_map (λ (o : KeptOutcome). o.kept) (staying_from it.numbers.first k)) (c.in_ok-found.ensures.found clean ∙ ap (kept_from rows (awaiting_from it.numbers) it.numbers.awaiting) c.place.ensures.exact)
