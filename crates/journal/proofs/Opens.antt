-- What was read of a file is what it says.
use Rattle.std.proofs.Common.{◌≡◌, refl, sym, ap, subst, ℕ, List, [], ◌∷◌, length, map, ◌∙◌, IsTrue, false}
use Rattle.std.proofs.lemmas.Bool.{true_from_ne_false}
use Rattle.sqlite_value.specs.Order.{Row}
use Rattle.sqlite_trees.specs.Objects.{catalog_tree}
use Rattle.sqlite_trees.specs.Tree.{Trees}
use Rattle.sqlite_trees.specs.View.{IsRolledBack, View, IsClean}
use Rattle.event_text.specs.EventText.{AreShort}
use Rattle.journal.specs.declared.contents.FileContents.{FileContents}
use Rattle.journal.specs.Rows.{value_rows}
use Rattle.journal.specs.EventRow.{event_row, event_told, event_read_back, events_in_rows, row_starts}
use Rattle.journal.specs.HeaderRow.{header_row, header_told, header_read_back}
use Rattle.journal.specs.TypeRow.{type_row, type_told, type_read_back}
use Rattle.journal.specs.ObjectRows.{object_row, object_told, object_read_back}
use Rattle.journal.specs.StateRow.{state_row, state_told, state_read_back}
use Rattle.journal.specs.PreparedRow.{prepared_row, prepared_told, prepared_read_back}
use Rattle.journal.specs.Contents.{Contents, IsFile, IsOlderThan, contents_of, keyed_format, preparing_format}
use Rattle.journal.specs.Said.{HasRowsOf, contents_beside}
use Rattle.journal.specs.Tables.{IsUnused, OnlyReads}
use Rattle.journal.specs.Journal.{HasTables, IsKeptFile, IsNamedOnce}
use Rattle.journal.proofs.RowLemmas.{rows-told}

-- rows of values say these values, and are the rows of what they say
pub told-of : {E : Type 0} (row_at : ℕ → E → Row) (told : Row → E) → ((n : ℕ) (e : E) → told (row_at n e) ≡ e) → (all : List Row) (es : List E) → all ≡ value_rows row_at 0 es → map told all ≡ es
told-of row_at told back all es is = ap (map told) is ∙ rows-told row_at told back 0 es

rows-of : {E : Type 0} (row_at : ℕ → E → Row) (told : Row → E) → ((n : ℕ) (e : E) → told (row_at n e) ≡ e) → (all : List Row) (es : List E) → all ≡ value_rows row_at 0 es → all ≡ value_rows row_at 0 (map told all)
rows-of row_at told back all es is = is ∙ ap (value_rows row_at 0) (sym (told-of row_at told back all es is))

module _ (db : Trees) (said : FileContents) (starts : List ℕ) (told : HasRowsOf db said starts) where
  headers-are : map header_told (db 1) ≡ said.header ∷ []
  headers-are = told-of header_row header_told header_read_back (db 1) (said.header ∷ []) told.header

  -- it is a file of a store
  pub is-file : IsFile db
  is-file = record {
    events = rows-of event_row event_told event_read_back (db 0) told.rows told.events;
    headers = rows-of header_row header_told header_read_back (db 1) (said.header ∷ []) told.header;
    types = rows-of type_row type_told type_read_back (db 2) said.types.items told.types;
    objects = rows-of object_row object_told object_read_back (db 3) said.objects.items told.objects;
    states = rows-of state_row state_told state_read_back (db 4) said.states.items told.states;
    prepared = rows-of prepared_row prepared_told prepared_read_back (db 5) said.prepared.items told.prepared;
    unprepared = λ older. told.unprepared (subst (IsOlderThan preparing_format) headers-are older);
    outcomes = λ older. told.outcomes (subst (IsOlderThan keyed_format) headers-are older);
  }

  rows-are : map event_told (db 0) ≡ told.rows
  rows-are = told-of event_row event_told event_read_back (db 0) told.rows told.events

  events-are : events_in_rows (map event_told (db 0)) ≡ said.events.items
  events-are = ap events_in_rows rows-are ∙ sym told.events_are

  pub starts-are : starts ≡ row_starts 0 (map event_told (db 0))
  starts-are = told.starts_are ∙ ap (row_starts 0) (sym rows-are)

  -- that says what was read
  pub says : contents_of db ≡ contents_beside (contents_of db).outcomes said
  says = rw (
    events-are,
    headers-are,
    told-of type_row type_told type_read_back (db 2) said.types.items told.types,
    told-of object_row object_told object_read_back (db 3) said.objects.items told.objects,
    told-of state_row state_told state_read_back (db 4) said.states.items told.states,
    told-of prepared_row prepared_told prepared_read_back (db 5) said.prepared.items told.prepared,
  ) refl

-- ---- the last commit is shown

module _ (old new : View) (back : IsRolledBack old new) (clean : IsClean new) (broken : new.is_open ≡ false → IsTrue new.is_broken) (sound : new.is_broken ≡ false) where
  stays_open : IsTrue new.is_open
  stays_open = true_from_ne_false new.is_open (λ shut. let x = sym (broken shut) ∙ sound in cc)

  pub unused : IsUnused new
  unused = record {
    is_open = stays_open;
    sound = sound;
    clean = (back.undone stays_open).0 ∙ sym ((back.kept clean).committed stays_open);
  }

  pub was_open : IsTrue old.is_open
  was_open = (back.kept clean).was_open stays_open

  pub same_commit : new.committed ≡ old.committed
  same_commit = (back.kept clean).committed stays_open

-- what was read without a write is a file of a store
pub starts : (old new : View) (said : FileContents) (places : List ℕ) → IsUnused old → HasTables old → IsTrue old.is_numbered → IsNamedOnce (old.trees catalog_tree) → OnlyReads old new
    → HasRowsOf old.trees said places → IsKeptFile new places (length said.events.items) (length said.prepared.items) said.header
starts old new said places unused tables numbered named only told =
    let file = is-file old.trees said places told in
    let says' = says old.trees said places told in
    subst (λ (v : View). IsKeptFile v places (length said.events.items) (length said.prepared.items) said.header) (sym only) (record {
      tables = record { each = tables.each };
      file = λ _. file;
      count_is = λ _. ap (λ (c : Contents). length c.events) (sym says');
      starts_are = λ _. starts-are old.trees said places told;
      short = λ _. subst (λ (c : Contents). AreShort c.events) (sym says') told.short;
      header_is = λ _. ap (λ (c : Contents). c.headers) says';
      prepared_are = λ _. ap (λ (c : Contents). length c.prepared) (sym says');
      kept = λ _. subst IsFile unused.clean file;
      numbered = numbered;
      named = λ _. named;
    })
