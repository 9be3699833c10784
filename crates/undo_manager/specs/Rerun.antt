-- A log of which a strike takes entries out, and the run of what it leaves.
use Rattle.std.specs.Prelude.{◌≡◌, ◌≤◌, ℕ, List, length, take, drop, ◌++◌, filter}
use Rattle.type_table.specs.Table.{Table}
use Rattle.object_trait.specs.Meaning.{open_of}
use Rattle.undo_manager.specs.Log.{entries, LeadsTo, start_of, stays_in_log}
use Rattle.undo_manager.specs.declared.undo_entry.UndoEntry.{UndoEntry}

-- t's open entries from a position on have left the log, and the others there keep the states before them, from start to the end
pub record IsRerun (T : Table) (t position : ℕ) (old : List UndoEntry) (start : ℕ) (new : List UndoEntry) (end : ℕ) : Type 0 where
  pub rest : List UndoEntry
  pub items : new ≡ take position old ++ rest
  pub left : entries rest ≡ filter (stays_in_log t) (entries (drop position old))
  pub steps : LeadsTo T start rest end
  pub fewer : length new ≤ length old

-- t's last m open entries have left a log that led to a state, and what was done since the first of them is run again
pub record IsTakenBack (T : Table) (t m : ℕ) (old : List UndoEntry) (state : ℕ) (new : List UndoEntry) (end : ℕ) : Type 0 where
  pub place : ℕ
  pub passed : length (open_of t (entries (drop place old))) ≡ m
  pub rerun : IsRerun T t place old (start_of (drop place old) state) new end
