use Rattle.std.proofs.Common.{ap, sym, ◌∙◌}
use Rattle.sqlite_trees.specs.View.{View}
use Rattle.journal.specs.Contents.{contents_of}
use Rattle.journal.specs.Said.{contents_beside}
use Rattle.journal.proofs.Outcomes.{none-kept}
use Rattle.journal.proofs.journal.Journal.create.Goals as goal

pub returns-in-Ok-true-clause-said : goal.returns-in-Ok-true-clause-said
returns-in-Ok-true-clause-said g c = λ clean.
    let was = c.has_no_rows.ensures.clean clean in
    let only = c.in-Ok-true.ensures.same clean in
    let none = none-kept (g.S.Store.view c.in_ok-journal.journal.store) (g.S.Store.view c.has_no_rows.new.store) only (c.in_ok-journal.ensures.shows was).0 (c.in-Ok-true.ensures.told c.in-Ok-true.field-0-test clean) in
    ap (λ (v : View). contents_of v.committed) only
    ∙ c.in_ok-journal.ensures.said was
    ∙ ap (λ outcomes. contents_beside outcomes c.in_ok-journal.found) (ap (λ (v : View). (contents_of v.committed).outcomes) (sym only) ∙ none)
    ∙ c.is_same.ensures c.if-not-is_same.false
