-- The transactions so far are written.
use Rattle.std.proofs.Common.{◌≡◌, take}
use Rattle.sqlite_trees.specs.Tree.{Trees}
use Rattle.journal.specs.Journal.{Clean, IsJournal, durable, may_leave, written}
use Rattle.durable_store.specs.Epochs.{with_all_prepared}
use Rattle.durable_store.proofs.prepared.prepare_all.Given as goal

abbrev pub invariant-loop-prepared : goal.invariant-loop-prepared
invariant-loop-prepared g l = record {
  kept : IsJournal g.S.Store l.journal;
  written : Clean g.S.Store l.journal → written g.S.Store l.journal ≡ with_all_prepared (written g.S.Store l.fn.journal) (take l.prepared-index l.those);
  durable : Clean g.S.Store l.journal → durable g.S.Store l.journal ≡ durable g.S.Store l.fn.journal;
  header : l.journal.header ≡ l.fn.journal.header;
  clean : Clean g.S.Store l.journal → Clean g.S.Store l.fn.journal;
  crash : (db : Trees) → may_leave g.S.Store l.journal db → may_leave g.S.Store l.fn.journal db;
}
