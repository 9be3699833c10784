-- What a durable store keeps: the history of its store is what its journal has written.
use Rattle.std.specs.Prelude.{◌≡◌, ◌↔◌, ℕ, Bool, true, ◌≤◌, List, ◌++◌, map, take, drop, length}
use Rattle.sqlite_trees.specs.declared.store.Store.{Ghosts}
use Rattle.sqlite_trees.specs.Tree.{Trees}
use Rattle.durable_store.specs.FileLimits.{file_limits}
use Rattle.object_trait.specs.declared.event.Event.{Event}
use Rattle.object_trait.specs.declared.event.EventKind.{EventKind}
use Rattle.carried_orders.specs.Orders.{AreStrong}
use Rattle.store.specs.Retraces.{IsTracedHistory}
use Rattle.event_text.specs.EventText.{events_of_kinds}
use Rattle.journal.specs.Contents.{Contents}
use Rattle.journal.specs.Journal.{Clean, IsJournal, IsSettled, durable, may_leave, written}
use Rattle.durable_store.specs.declared.durable.Durable.{Durable}
use Rattle.durable_store.specs.Types.{HasTypes}
use Rattle.durable_store.specs.Names.{IndexesNames}
use Rattle.durable_store.specs.Held.{ArePrepared, prepared_numbers, undecided}
use Rattle.serial_order.specs.Operations.{is_among}
use Rattle.journal.specs.declared.prepared_row.Prepared.{Prepared}

-- what happened, without the worker
abbrev pub kinds : List Event → List EventKind
kinds events = map (λ (e : Event). e.kind) events

-- one of them as an event of worker 0, which makes all events of a durable store
abbrev pub event_of_kind : EventKind → Event
event_of_kind kind = record { worker = 0; kind = kind }

-- with these events more
abbrev pub with_all : Contents → List Event → Contents
with_all c more = record c { events = c.events ++ kinds more }

-- the transactions that are prepared and not decided
abbrev pub prepared_in : Contents → List Prepared
prepared_in c = undecided (events_of_kinds c.events) c.prepared

-- the journal has the whole history, which the store's commands made; the types are those of its objects, and so are the names; it knows who is prepared,
-- and whether each yes is strong; and a crash at this moment leaves what was settled
pub record IsDurable {S : Type 0} (g : Ghosts S) (d : Durable S) : Type 0 where
  pub journal : IsJournal g d.journal
  pub history : Clean g d.journal → d.store.history ≡ events_of_kinds (written g d.journal).events
  pub types : Clean g d.journal → HasTypes (written g d.journal) d.store.types
  pub settled : Clean g d.journal → IsSettled g d.journal
  pub limit : d.store.limits ≡ file_limits
  pub own : IsTracedHistory d.store
  pub named : Clean g d.journal → IndexesNames (written g d.journal).objects d.names
  pub prepared : Clean g d.journal → ArePrepared d.store.history (written g d.journal) d.prepared.items
  pub strong : (d.strong ≡ true) ↔ AreStrong d.store.types

-- but for the events after the first ones, as many as these, which the journal hasn't yet, and but for who is prepared
pub record IsBehind {S : Type 0} (g : Ghosts S) (d : Durable S) (count : ℕ) : Type 0 where
  pub journal : IsJournal g d.journal
  pub types : Clean g d.journal → HasTypes (written g d.journal) d.store.types
  pub settled : Clean g d.journal → IsSettled g d.journal
  pub limit : d.store.limits ≡ file_limits
  pub own : IsTracedHistory d.store
  pub named : Clean g d.journal → IndexesNames (written g d.journal).objects d.names
  pub remembered : d.store.forgotten ≤ count
  pub inside : count ≤ length d.store.history
  pub history : Clean g d.journal → take count d.store.history ≡ events_of_kinds (written g d.journal).events
  pub by_zero : Clean g d.journal → drop count d.store.history ≡ events_of_kinds (kinds (drop count d.store.history))
  pub strong : (d.strong ≡ true) ↔ AreStrong d.store.types

-- transaction t is prepared and not decided
abbrev pub is_prepared : {S : Type 0} → Durable S → ℕ → Bool
is_prepared d t = is_among (prepared_numbers d.prepared.items) t

-- a crash leaves nothing that it couldn't have left before
abbrev pub OutcomesStay : {S : Type 0} (g : Ghosts S) → Durable S → Durable S → Type 0
OutcomesStay g old new = (db : Trees) → may_leave g new.journal db → may_leave g old.journal db

-- nothing of what was settled changes
abbrev pub KeepsSettled : {S : Type 0} (g : Ghosts S) → Durable S → Durable S → Type 0
KeepsSettled g old new = Clean g new.journal → durable g new.journal ≡ durable g old.journal

-- what is written grows by the events that the store has made since
abbrev pub WritesSince : {S : Type 0} (g : Ghosts S) → Durable S → Durable S → Type 0
WritesSince g old new = Clean g new.journal → written g new.journal ≡ with_all (written g old.journal) (drop (length old.store.history) new.store.history)
