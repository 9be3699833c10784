-- The history that the lines of a text describe.
use Rattle.std.specs.Prelude.{◌≡◌, ◌<◌, ◌≤◌, true, List, length, map, IfSome}
use Rattle.std.specs.List.{AllByRecursion}
use Rattle.std.specs.Option.{option_to_list}
use Rattle.type_table.specs.Limits.{most_events}
use Rattle.store_text.specs.declared.line.Line.{Line}
use Rattle.store_text.specs.declared.line.ObjectLine.{ObjectLine}
use Rattle.store_text.specs.Named.{AreNamed}
use Rattle.store_text.specs.Said.{said_sizes, said_objects, entries_of}
use Rattle.store_text.specs.Size.{may_have, IsSize}
use Rattle.history_text.specs.declared.event_line.EventLine.{EventLine}
use Rattle.history_text.specs.declared.history_file.HistoryFile.{HistoryFile}
use Rattle.history_text.specs.Events.{event_in_line, line_of, is_in_range}

-- the size is that of the `objects` line, where there is one; the objects and the events are those of their lines in order
pub record IsHistoryOf (lines : List (Line EventLine)) (file : HistoryFile) : Type 0 where
  pub size : said_sizes lines ≡ option_to_list file.size
  pub objects : file.objects.items ≡ said_objects lines
  pub events : file.events.items ≡ map event_in_line (entries_of lines)

-- its numbers and counts are in their ranges
pub record IsFitHistory (file : HistoryFile) : Type 0 where
  pub size : IfSome file.size IsSize
  pub some_object : 0 < length file.objects.items
  pub objects_fit : length file.objects.items ≤ may_have file.size
  pub files_fit : AllByRecursion (λ (o : ObjectLine). o.file < may_have file.size) file.objects.items
  pub named : AreNamed file.objects.items
  pub events_fit : length file.events.items ≤ most_events
  pub numbers_fit : AllByRecursion (λ e. is_in_range (may_have file.size) (line_of e) ≡ true) file.events.items
