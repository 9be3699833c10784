-- What writing events and a commit do to a file of a store.
use Rattle.std.proofs.Common.{◌≡◌, refl, sym, ap, subst, ℕ, ◌+◌, List, [], ◌∷◌, ◌++◌, append-nil, append_assoc, length, map, arith, ◌∙◌, IsTrue, Bool, false, true, length-append}
use Rattle.std.specs.Prelude.{pos}
use Rattle.sqlite_value.specs.declared.value.Value.TheVariants.{Int}
use Rattle.sqlite_trees.specs.Tree.{put_row, rowid, Trees}
use Rattle.sqlite_trees.specs.View.{doubt, View, SetsTree, IsClean}
use Rattle.object_trait.specs.declared.event.EventKind.{EventKind}
use Rattle.type_table.proofs.Elements.{each-append}
use Rattle.event_text.specs.EventText.{AreShort, IsShort}
use Rattle.journal.specs.declared.event_row.EventRow.{EventRow}
use Rattle.journal.specs.declared.event_row.EventRow.TheVariants.{Lines}
use Rattle.journal.specs.declared.header.Header.{Header}
use Rattle.journal.specs.EventRow.{event_keyed, event_read_back, event_row, event_told, events_in_rows, row_starts}
use Rattle.journal.specs.Contents.{Contents, IsFile, contents_of, contents_with_event, with_pending}
use Rattle.journal.specs.Journal.{HasTables, IsKeptFile, IsNamedOnce}
use Rattle.sqlite_trees.specs.Objects.{catalog_tree}
use Rattle.journal.proofs.EventPlaces.{events-more, length-starts, starts-more}
use Rattle.journal.proofs.RowLemmas.{told-more, rows-of-more}

-- the position of a row
keyed : (n : ℕ) (row : EventRow) → rowid (event_row n row) ≡ Int (pos n)
keyed n row = rw ((event_keyed n row).1) refl

-- ---- an event is pending

-- no event is pending
pub none-pending : (c : Contents) → with_pending c [] ≡ c
none-pending c = ap (λ es. record c { events = es }) (append-nil c.events)

-- one more behind the others
pub one-pending : (c : Contents) (events : List EventKind) (e : EventKind) → with_pending c (events ++ e ∷ []) ≡ contents_with_event (with_pending c events) e
one-pending c events e = ap (λ es. record c { events = es }) (sym (append_assoc c.events events (e ∷ [])))

-- ---- those that are pending become a row

module _ (old new : View) (position count prepared : ℕ) (starts : List ℕ) (header : Header) (events : List EventKind) (sets : SetsTree old new 0 (put_row (event_row position (Lines events))))
    (kept : IsKeptFile old starts count prepared header) (behind : position ≡ length starts) where
  before : IsFile old.trees
  before = kept.file sets.sound

  abbrev rows : List EventRow
  rows = map event_told (old.trees 0)

  many : position ≡ length rows
  many = behind ∙ ap length (kept.starts_are sets.sound) ∙ length-starts 0 rows

  told : map event_told (put_row (event_row position (Lines events)) (old.trees 0)) ≡ rows ++ Lines events ∷ []
  told = told-more event_row (λ m row. keyed m row) event_told event_read_back position (old.trees 0) (Lines events) before.events many

  all : events_in_rows (map event_told (put_row (event_row position (Lines events)) (old.trees 0))) ≡ events_in_rows rows ++ events
  all = ap events_in_rows told ∙ events-more rows (Lines events)

  -- they are behind the others
  pub grouped : contents_of new.trees ≡ with_pending (contents_of old.trees) events
  grouped = ap (λ (v : View). contents_of v.trees) sets.is ∙ ap (λ es. record (contents_of old.trees) { events = es }) all

  file : IsFile new.trees
  file = subst (λ (v : View). IsFile v.trees) (sym sets.is) (record {
    events = rows-of-more event_row (λ m row. keyed m row) event_told event_read_back position (old.trees 0) (Lines events) before.events many;
    headers = before.headers;
    types = before.types;
    objects = before.objects;
    states = before.states;
    prepared = before.prepared;
    unprepared = before.unprepared;
    outcomes = before.outcomes;
  })

  from-none : length (events_in_rows rows) ≡ 0 + length (events_in_rows rows)
  from-none = omega arith

  begin : starts ++ count ∷ [] ≡ row_starts 0 (map event_told (put_row (event_row position (Lines events)) (old.trees 0)))
  begin =
      ap (λ n. starts ++ n ∷ []) (kept.count_is sets.sound)
      ∙ ap (λ front. front ++ length (events_in_rows rows) ∷ []) (kept.starts_are sets.sound)
      ∙ ap (λ n. row_starts 0 rows ++ n ∷ []) from-none
      ∙ sym (starts-more 0 rows (Lines events))
      ∙ ap (row_starts 0) (sym told)

  -- and it is a file of a store again
  pub groups : AreShort events → IsKeptFile new (starts ++ count ∷ []) (count + length events) prepared header
  groups numbers = record {
    tables = subst (λ (v : View). HasTables v) (sym sets.is) (record { each = kept.tables.each });
    file = λ _. file;
    count_is = λ _.
        let long = ap (λ (c : Contents). length c.events) grouped ∙ length-append (contents_of old.trees).events events in
        let was = kept.count_is sets.sound in omega arith;
    starts_are = λ _. begin ∙ ap (λ (v : View). row_starts 0 (map event_told (v.trees 0))) (sym sets.is);
    short = λ _. subst (λ (c : Contents). AreShort c.events) (sym grouped) (each-append IsShort (contents_of old.trees).events events (kept.short sets.sound) numbers);
    header_is = λ _. ap (λ (c : Contents). c.headers) grouped ∙ kept.header_is sets.sound;
    prepared_are = λ _. kept.prepared_are sets.sound ∙ ap (λ (c : Contents). length c.prepared) (sym grouped);
    kept = λ is_open. subst (λ (v : View). IsTrue v.is_open → IsFile v.committed) (sym sets.is) kept.kept is_open;
    numbered = subst (λ (v : View). IsTrue v.is_numbered) (sym sets.is) kept.numbered;
    named = λ _. subst (λ (v : View). IsNamedOnce (v.trees catalog_tree)) (sym sets.is) (kept.named sets.sound);
  }

-- ---- a commit

clean_is : (b : Bool) → (b ≡ false → ⊥) → doubt b ≡ 0
unfolding doubt
clean_is true h = refl
clean_is false h = absurd (h refl)

-- a store that is not broken is clean
pub clean_if_sound : (v : View) → (v.is_clean ≡ false → v.is_open ≡ false) → (v.is_open ≡ false → IsTrue v.is_broken) → v.is_broken ≡ false → IsClean v
clean_if_sound v shut broken sound = clean_is v.is_clean (λ e. let x = sym (broken (shut e)) ∙ sound in cc)

open_is : (b : Bool) → (b ≡ false → ⊥) → IsTrue b
open_is true h = refl
open_is false h = absurd (h refl)

-- and open
pub open_if_sound : (v : View) → (v.is_open ≡ false → IsTrue v.is_broken) → v.is_broken ≡ false → IsTrue v.is_open
open_if_sound v broken sound = open_is v.is_open (λ e. let x = sym (broken e) ∙ sound in cc)

-- what is left is what was written
pub file_of : (db trees : Trees) → db ≡ trees → IsFile trees → IsFile db
file_of db trees e is = rw e is
