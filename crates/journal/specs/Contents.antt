-- What the tables of a file say.
use Rattle.std.specs.Prelude.{◌≡◌, ℕ, ◌<◌, List, [], ◌∷◌, ◌++◌, map}
use Rattle.object_trait.specs.declared.event.EventKind.{EventKind}
use Rattle.store_text.specs.declared.line.ObjectLine.{ObjectLine}
use Rattle.sqlite_trees.specs.Tree.{Trees}
use Rattle.journal.specs.declared.header.Header.{Header}
use Rattle.journal.specs.declared.state_row.FirstState.{FirstState}
use Rattle.journal.specs.Rows.{value_rows}
use Rattle.journal.specs.EventRow.{event_row, event_told, events_in_rows}
use Rattle.journal.specs.HeaderRow.{header_row, header_told}
use Rattle.journal.specs.TypeRow.{type_row, type_told}
use Rattle.journal.specs.ObjectRows.{object_row, object_told}
use Rattle.journal.specs.StateRow.{state_row, state_told}
use Rattle.journal.specs.declared.outcome_row.KeyedOutcome.{KeyedOutcome}
use Rattle.journal.specs.declared.numbers.Numbers.{Numbers}
use Rattle.journal.specs.Outcomes.{Outcomes, let_go, outcomes_by, outcomes_in, outcomes_with, staying}
use Rattle.journal.specs.declared.prepared_row.Prepared.{Prepared}
use Rattle.journal.specs.PreparedRow.{prepared_row, prepared_told}

-- the events of the history since the file's states, what the file says of itself, the texts of types, the objects with their types,
-- the states at which they began, which transactions were prepared since, and what became of transactions that have keys, by the places of these
pub record Contents : Type 0 where
  pub events : List EventKind
  pub headers : List Header
  pub types : List (List ℕ)
  pub objects : List ObjectLine
  pub states : List FirstState
  pub prepared : List Prepared
  pub outcomes : Outcomes

abbrev pub contents_of : Trees → Contents
contents_of db = record {
  events = events_in_rows (map event_told (db 0));
  headers = map header_told (db 1);
  types = map type_told (db 2);
  objects = map object_told (db 3);
  states = map state_told (db 4);
  prepared = map prepared_told (db 5);
  outcomes = outcomes_in (db 6);
}

-- where this became of transactions that have keys
abbrev pub with_outcomes : Contents → Outcomes → Contents
with_outcomes c all = record c { outcomes = all }

-- where outcomes have these numbers, also where their row doesn't count them all yet
abbrev pub contents_by : Numbers → Trees → Contents
contents_by n db = with_outcomes (contents_of db) (outcomes_by n (db 6))

-- the format of what is written: 9 has outcomes in the order of their numbers, 8 numbers of outcomes, 7 prepared transactions, 6 what became of transactions that have keys, 5 a row for the events that were written together,
-- 4 names of objects, 3 operations with amounts, 2 types that are numbers
abbrev pub newest_format : ℕ
newest_format = 9

-- the first format that knows prepared transactions
abbrev pub preparing_format : ℕ
preparing_format = 7

-- the first format that knows keys
abbrev pub keyed_format : ℕ
keyed_format = 6

-- a header of an older format than this one
abbrev pub IsOlderThan : ℕ → List Header → Type 0
IsOlderThan format [] = ⊥
IsOlderThan format (h ∷ hs) = h.format < format

-- each table but the last one has the rows of what it says, at the positions 0, 1, 2 and so on, and no other; a row of events may say several; the
-- last two have none in a file of a format that doesn't know them
pub record IsFile (db : Trees) : Type 0 where
  pub events : db 0 ≡ value_rows event_row 0 (map event_told (db 0))
  pub headers : db 1 ≡ value_rows header_row 0 (contents_of db).headers
  pub types : db 2 ≡ value_rows type_row 0 (contents_of db).types
  pub objects : db 3 ≡ value_rows object_row 0 (contents_of db).objects
  pub states : db 4 ≡ value_rows state_row 0 (contents_of db).states
  pub prepared : db 5 ≡ value_rows prepared_row 0 (contents_of db).prepared
  pub unprepared : IsOlderThan preparing_format (contents_of db).headers → db 5 ≡ []
  pub outcomes : IsOlderThan keyed_format (contents_of db).headers → db 6 ≡ []

-- with these events, which are in no row yet, behind the others
abbrev pub with_pending : Contents → List EventKind → Contents
with_pending c events = record c { events = c.events ++ events }

-- with an event more
abbrev pub contents_with_event : Contents → EventKind → Contents
contents_with_event c e = record c { events = c.events ++ e ∷ [] }

-- with a prepared transaction more
abbrev pub with_prepared : Contents → Prepared → Contents
with_prepared c p = record c { prepared = c.prepared ++ p ∷ [] }

-- with what became of a transaction, at its key's place
abbrev pub with_outcome : Contents → KeyedOutcome → Contents
with_outcome c o = record c { outcomes = outcomes_with c.outcomes o }

-- where at least so many of the last outcomes stay from now on
abbrev pub with_least : Contents → ℕ → Contents
with_least c least = record c { outcomes = staying c.outcomes least }

-- with this number of a life in the header, which is of the newest format then
abbrev pub in_life : Contents → ℕ → Contents
in_life c life = record c { headers = map (λ (h : Header). let raised : Header = record h { format = newest_format; life = life } in raised) c.headers }

-- where a history begins at these states, and no transaction is prepared yet
abbrev pub at_states : Contents → List FirstState → Contents
at_states c states = record c { events = []; states = states; prepared = [] }

-- with these types and objects behind those that there are, where a history of all of them begins at these states
abbrev pub extended_at : Contents → List (List ℕ) → List ObjectLine → List FirstState → Contents
extended_at c types objects states = record c { events = []; types = c.types ++ types; objects = c.objects ++ objects; states = states; prepared = [] }

-- where outcomes are let go since which as many were kept as stay at least
abbrev pub with_let_go : Contents → Contents
with_let_go c = record c { outcomes = let_go c.outcomes }

-- and where that is so too
abbrev pub from_states : Contents → List FirstState → Contents
from_states c states = at_states (with_let_go c) states

abbrev pub extended : Contents → List (List ℕ) → List ObjectLine → List FirstState → Contents
extended c types objects states = extended_at (with_let_go c) types objects states
