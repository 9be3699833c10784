use Rattle.std.proofs.Common.{◌-◌, ◌++◌, ap, append-nil, drop, map, subst, sym, take, ◌∙◌}
use Rattle.sqlite_trees.specs.View.{IsClean}
use Rattle.journal.specs.EventRow.{event_told, events_in_rows}
use Rattle.journal.specs.RowPlaces.{AreBefore, HaveEvents}
use Rattle.journal.proofs.EventPlaces.{no-events, some-events}
use Rattle.journal.proofs.journal.Journal.events.Goals as goal

pub returns-in_default-clause-said : goal.returns-in_default-clause-said
returns-in_default-clause-said g c = λ clean.
    let it = c.args.self.now in
    let rows = map event_told ((g.S.Store.view it.store).trees 0) in
    let shows = c.requires.shows clean in
    let starts = c.deref.ensures.value ∙ (c.requires.journal clean).0.starts_are shows.0.sound in
    let before = subst (λ s. AreBefore s c.args.from c.args.count) starts (c.rows_of.ensures.none c.in_default.is) in
    c.new.ensures.items
    ∙ sym (ap (λ es. take c.args.count (drop c.args.from es)) (ap (λ more. events_in_rows rows ++ more) shows.1 ∙ append-nil (events_in_rows rows)) ∙ no-events rows c.args.from c.args.count before)

pub returns-clause-said : goal.returns-clause-said
returns-clause-said g c = λ clean.
    let it = c.args.self.now in
    let was : IsClean (g.S.Store.view it.store) = c.read_from.ensures.clean clean in
    let rows = map event_told ((g.S.Store.view it.store).trees 0) in
    let places = c.in-Some.rows in
    let shows = c.requires.shows was in
    let starts = c.deref.ensures.value ∙ (c.requires.journal was).0.starts_are shows.0.sound in
    let have = subst (λ s. HaveEvents s c.args.from c.args.count places) starts c.in-Some.ensures.found in
    c.in_ok-events.ensures
    ∙ ap (λ rs. take c.args.count (drop (c.args.from - places.start) (events_in_rows rs))) (c.deref-2.ensures.value ∙ c.in_ok-found.ensures.told clean)
    ∙ some-events rows c.args.from c.args.count places have
    ∙ sym (ap (λ es. take c.args.count (drop c.args.from es)) (ap (λ more. events_in_rows rows ++ more) shows.1 ∙ append-nil (events_in_rows rows)))
