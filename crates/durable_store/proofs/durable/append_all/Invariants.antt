-- The events so far are written.
use Rattle.std.proofs.Common.{◌≡◌, take}
use Rattle.sqlite_trees.specs.Tree.{Trees}
use Rattle.journal.specs.Journal.{Clean, IsJournal, durable, may_leave, written}
use Rattle.durable_store.specs.Durable.{with_all}
use Rattle.durable_store.proofs.durable.append_all.Given as goal

abbrev pub invariant-loop-event : goal.invariant-loop-event
invariant-loop-event g l = record {
  kept : IsJournal g.S.Store l.journal;
  written : Clean g.S.Store l.journal → written g.S.Store l.journal ≡ with_all (written g.S.Store l.fn.journal) (take l.event-index l.events);
  durable : Clean g.S.Store l.journal → durable g.S.Store l.journal ≡ durable g.S.Store l.fn.journal;
  header : l.journal.header ≡ l.fn.journal.header;
  clean : Clean g.S.Store l.journal → Clean g.S.Store l.fn.journal;
  crash : (db : Trees) → may_leave g.S.Store l.journal db → may_leave g.S.Store l.fn.journal db;
}
