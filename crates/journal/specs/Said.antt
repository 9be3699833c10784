-- What was read of a file.
use Rattle.std.specs.Prelude.{◌≡◌, ◌<◌, ℕ, List, [], ◌∷◌}
use Rattle.sqlite_trees.specs.Tree.{Trees}
use Rattle.event_text.specs.EventText.{AreShort}
use Rattle.journal.specs.declared.contents.FileContents.{FileContents}
use Rattle.journal.specs.Rows.{value_rows}
use Rattle.journal.specs.declared.event_row.EventRow.{EventRow}
use Rattle.journal.specs.EventRow.{event_row, events_in_rows, row_starts}
use Rattle.journal.specs.HeaderRow.{header_row}
use Rattle.journal.specs.TypeRow.{type_row}
use Rattle.journal.specs.ObjectRows.{object_row}
use Rattle.journal.specs.StateRow.{state_row}
use Rattle.journal.specs.PreparedRow.{prepared_row}
use Rattle.journal.specs.Contents.{Contents, keyed_format, preparing_format}
use Rattle.journal.specs.Outcomes.{Outcomes, no_outcomes}

-- the same as the tables say it, where no transaction had a key
abbrev pub contents : FileContents → Contents
contents said = record {
  events = said.events.items;
  headers = said.header ∷ [];
  types = said.types.items;
  objects = said.objects.items;
  states = said.states.items;
  prepared = said.prepared.items;
  outcomes = no_outcomes;
}

-- and where this became of those that had, which isn't read
abbrev pub contents_beside : Outcomes → FileContents → Contents
contents_beside outcomes said = record (contents said) { outcomes = outcomes }

-- the tables have the rows of just this, where the events of each row begin at these places, and each number of an event is of 32 bits
pub record HasRowsOf (db : Trees) (said : FileContents) (starts : List ℕ) : Type 0 where
  pub rows : List EventRow
  pub events : db 0 ≡ value_rows event_row 0 rows
  pub events_are : said.events.items ≡ events_in_rows rows
  pub short : AreShort said.events.items
  pub starts_are : starts ≡ row_starts 0 rows
  pub header : db 1 ≡ header_row 0 said.header ∷ []
  pub types : db 2 ≡ value_rows type_row 0 said.types.items
  pub objects : db 3 ≡ value_rows object_row 0 said.objects.items
  pub states : db 4 ≡ value_rows state_row 0 said.states.items
  pub prepared : db 5 ≡ value_rows prepared_row 0 said.prepared.items
  pub unprepared : said.header.format < preparing_format → db 5 ≡ []
  pub outcomes : said.header.format < keyed_format → db 6 ≡ []
