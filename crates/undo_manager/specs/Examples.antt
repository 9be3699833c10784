-- Small logs of the counter of two, whose operation 0 counts up and whose operation 1 counts down.
use Rattle.std.specs.Prelude.{ℕ, List, [], ◌∷◌}
use Rattle.object_trait.specs.Examples.{held}
use Rattle.object_trait.specs.declared.log_entry.LogEntry.{LogEntry}
use Rattle.undo_manager.specs.declared.undo_entry.UndoEntry.{UndoEntry}
use Rattle.undo_manager.specs.declared.opened.Opened.{Opened}

-- an entry with the state before it
abbrev pub at : ℕ → LogEntry → UndoEntry
at s e = record { entry = e; before = s }

-- from 0, transaction 1 has counted up, then 2, and then 1 down again
abbrev pub three_kept : List UndoEntry
three_kept = at 0 (held 1 0) ∷ at 1 (held 2 0) ∷ at 2 (held 1 1) ∷ []

-- their counts, as they come about
abbrev pub three_counts : List Opened
three_counts = record { by = 1; count = 2 } ∷ record { by = 2; count = 1 } ∷ []
