use Rattle.std.proofs.Common.{◌∷◌, [], ◌∙◌, ap, refl, subst, sym}
use Rattle.sqlite_trees.specs.View.{View}
use Rattle.journal.specs.Contents.{Contents, in_life, with_pending}
use Rattle.journal.specs.OutcomeIndex.{CountsOutcomes}
use Rattle.journal.proofs.NewHeaders.{raises, in-life}
use Rattle.journal.proofs.Outcomes.{by-numbers}
use Rattle.journal.proofs.journal.Journal.begin_life.Goals as goal

pub returns-clause-kept : goal.returns-clause-kept
returns-clause-kept g c = λ clean.
    let was = c.in_ok-raise_tables.ensures.kept (c.append.ensures.clean clean) in
    (raises _ _ _ _ _ _ _ (c.in_ok-append.ensures.ok clean) was.0 refl, was.1, subst (λ (v : View). CountsOutcomes v c.raise_tables.new.self.numbers c.raise_tables.new.self.index) (sym (c.in_ok-append.ensures.ok clean).is) was.2)

pub returns-clause-last : goal.returns-clause-last
returns-clause-last g c = λ clean.
    let between = c.append.ensures.clean clean in
    ap (λ (x : Contents). x.headers) (sym (c.in_ok-raise_tables.ensures.written between))
    ∙ (c.in_ok-raise_tables.ensures.kept between).0.header_is (c.in_ok-append.ensures.ok clean).sound ∙ ap (λ h. h ∷ []) c.raise_tables.ensures.header

pub returns-clause-written : goal.returns-clause-written
returns-clause-written g c = λ clean.
    let between = c.append.ensures.clean clean in
    let it = c.raise_tables.new.self in
    let sets = c.in_ok-append.ensures.ok clean in
    ap (λ x. with_pending x it.pending)
    (by-numbers (g.S.Store.view c.append.new.store).trees (g.S.Store.view it.store).trees it.numbers _ (in-life _ _ _ _ _ _ _ sets (c.in_ok-raise_tables.ensures.kept between).0 refl) (ap (λ (v : View). v.trees 6) sets.is))
    ∙ ap (λ x. in_life x c.in-Some.life) (c.in_ok-raise_tables.ensures.written between)
