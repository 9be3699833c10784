-- What a manager of update in place keeps.
use Rattle.std.specs.Prelude.{◌≡◌, ◌≤◌, ◌<◌, ℕ, List, length}
use Rattle.type_table.specs.Table.{IsTable}
use Rattle.type_table.specs.declared.kind.Kind.TheVariants.{Undo}
use Rattle.table_checker.specs.Checked.{Checked}
use Rattle.object_trait.specs.Object.{IsCovered, object_of}
use Rattle.object_trait.specs.Sound.{IsSoundUndo}
use Rattle.undo_manager.specs.Log.{entries, LeadsTo, BeginsOpen}
use Rattle.undo_manager.specs.Opened.{HasCounts}
use Rattle.undo_manager.specs.declared.undo_entry.UndoEntry.{UndoEntry}
use Rattle.undo_manager.specs.declared.opened.Opened.{Opened}

-- a covered type for update in place, a sound log that begins with an open entry and leads from base to the state, and its counts
pub record IsKeptInPlace (checked : Checked) (base state : ℕ) (log : List UndoEntry) (counts : List Opened) : Type 0 where
  pub in_place : checked.kind ≡ Undo
  pub table : IsTable checked.file.table
  pub covered : IsCovered (object_of checked)
  pub base_fits : base < checked.file.table.states
  pub state_fits : state < checked.file.table.states
  pub room : length log ≤ 4294967295
  pub steps : LeadsTo checked.file.table base log state
  pub sound : IsSoundUndo (object_of checked) base (entries log)
  pub front : BeginsOpen (entries log)
  pub counted : HasCounts (entries log) counts
