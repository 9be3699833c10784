use Rattle.std.proofs.Common.{ap, subst}
use Rattle.sqlite_trees.specs.View.{IsClean}
use Rattle.journal.specs.Contents.{contents_of}
use Rattle.journal.specs.Journal.{Clean, durable, written}
use Rattle.key_commands.proofs.FoundFiles.{of_any, read_of, same_of}
use Rattle.key_commands.proofs.reading.read_in.Goals as goal

pub returns-in-Ok-clause-read : goal.returns-in-Ok-clause-read
returns-in-Ok-clause-read g c =
    let was = c.in-Ok.journal in
    let closes : IsClean (g.S.Store.view c.into_store.result) → Clean g.S.Store c.read_journal-reading.new.journal = subst (λ (s : g.row.S.Denot). IsClean (g.S.Store.view s)) c.into_store.ensures in
    let opened = c.read_journal-reading.ensures.clean in
    read_of c.read_journal-reading.result _ _ _ (written g.S.Store was) (durable g.S.Store was) c.in-Ok.said _ closes (λ now. c.in-Ok.ensures.same (opened now)) (λ now. c.in-Ok.ensures.said (opened now))
    (λ now. c.in-Ok.ensures.settled (opened now)) c.read_journal-reading.ensures.happened c.read_journal-reading.ensures.held c.read_journal-reading.ensures.kept

pub returns-in-Ok-clause-same : goal.returns-in-Ok-clause-same
returns-in-Ok-clause-same g c =
    let was = c.in-Ok.journal in
    let closes : IsClean (g.S.Store.view c.into_store.result) → Clean g.S.Store c.read_journal-reading.new.journal = subst (λ (s : g.row.S.Denot). IsClean (g.S.Store.view s)) c.into_store.ensures in
    let opened = c.read_journal-reading.ensures.clean in
    same_of c.read_journal-reading.result _ _ _ (durable g.S.Store was) (durable g.S.Store c.read_journal-reading.new.journal) _ closes (λ now. c.in-Ok.ensures.same (opened now)) c.read_journal-reading.ensures.same
    (ap (λ (s : g.row.S.Denot). contents_of (g.S.Store.view s).committed) c.into_store.ensures)

pub returns-in-Ok-clause-clean : goal.returns-in-Ok-clause-clean
returns-in-Ok-clause-clean g c =
    let closes : IsClean (g.S.Store.view c.into_store.result) → Clean g.S.Store c.read_journal-reading.new.journal = subst (λ (s : g.row.S.Denot). IsClean (g.S.Store.view s)) c.into_store.ensures in
    of_any c.read_journal-reading.result _ (λ now. c.in-Ok.ensures.clean (c.read_journal-reading.ensures.clean (closes now)))

pub returns-in-Ok-clause-was_open : goal.returns-in-Ok-clause-was_open
returns-in-Ok-clause-was_open g c =
    let closes : IsClean (g.S.Store.view c.into_store.result) → Clean g.S.Store c.read_journal-reading.new.journal = subst (λ (s : g.row.S.Denot). IsClean (g.S.Store.view s)) c.into_store.ensures in
    of_any c.read_journal-reading.result _ (λ now. c.in-Ok.ensures.was_open (c.read_journal-reading.ensures.clean (closes now)))
