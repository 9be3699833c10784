-- The history of the worked text.
use Rattle.std.specs.Prelude.{◌≡◌, ℕ, List, take, None}
use Rattle.object_trait.specs.declared.event.Event.{Event}
use Rattle.store_text.specs.declared.line.ObjectLine.{ObjectLine}
use Rattle.history_text.specs.declared.history_file.HistoryFile.{HistoryFile}
use Rattle.history_text.specs.Examples.{ended, two_objects_text}

-- the history says no size, and has these objects and events
pub record HasHistory (objects : List ObjectLine) (events : List Event) (history : HistoryFile) : Type 0 where
  pub size_is : history.size ≡ None
  pub objects_are : history.objects.items ≡ objects
  pub events_are : history.events.items ≡ events

-- the text of a history without its `end`
abbrev pub endless_history : List ℕ
endless_history = ended (take 11 two_objects_text)
