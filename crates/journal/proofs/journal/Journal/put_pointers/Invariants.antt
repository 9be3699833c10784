use Rattle.std.proofs.Common.{◌≡◌, ◌≤◌}
use Rattle.sqlite_trees.specs.Tree.{Trees}
use Rattle.journal.specs.Contents.{newest_format}
use Rattle.journal.specs.Journal.{Clean, IsJournal, durable, may_leave, written}
use Rattle.journal.proofs.journal.Journal.put_pointers.Given as goal

abbrev pub invariant-loop : goal.invariant-loop
invariant-loop g l = record {
  kept : IsJournal g.S.Store l.self;
  newest : newest_format ≤ l.self.header.format;
  written : Clean g.S.Store l.self → written g.S.Store l.self ≡ written g.S.Store l.fn.self;
  durable : Clean g.S.Store l.self → durable g.S.Store l.self ≡ durable g.S.Store l.fn.self;
  header : l.self.header ≡ l.fn.self.header;
  clean : Clean g.S.Store l.self → Clean g.S.Store l.fn.self;
  crash : (db : Trees) → may_leave g.S.Store l.self db → may_leave g.S.Store l.fn.self db;
}
