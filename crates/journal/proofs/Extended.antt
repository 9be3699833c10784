-- A history begins anew with more types and objects.
use Rattle.std.proofs.Common.{◌≡◌, ◌≢◌, refl, sym, ap, subst, ℕ, ◌<◌, List, [], ◌++◌, length, map, ◌∙◌, IsTrue, lit<, arith}
use Rattle.store_text.specs.declared.line.ObjectLine.{ObjectLine}
use Rattle.sqlite_trees.specs.Objects.{catalog_tree}
use Rattle.sqlite_trees.specs.View.{View}
use Rattle.journal.specs.declared.header.Header.{Header}
use Rattle.journal.specs.declared.state_row.FirstState.{FirstState}
use Rattle.journal.specs.Rows.{value_rows}
use Rattle.journal.specs.StateRow.{state_row, state_told, state_read_back}
use Rattle.journal.specs.TypeRow.{type_row, type_told, type_read_back}
use Rattle.journal.specs.ObjectRows.{object_row, object_told, object_read_back}
use Rattle.journal.specs.Tables.{AreBehind, Rewrites}
use Rattle.journal.specs.EmptyTable.{EmptiesEpoch}
use Rattle.journal.specs.Contents.{IsFile, contents_of, extended_at}
use Rattle.journal.specs.declared.numbers.Numbers.{Numbers}
use Rattle.journal.proofs.Outcomes.{same-numbers}
use Rattle.journal.specs.OutcomeIndex.{CountsOutcomes}
use Rattle.journal.specs.declared.outcome_index.OutcomeIndex.{OutcomeIndex}
use Rattle.journal.specs.Journal.{IsKeptFile, IsNamedOnce}
use Rattle.journal.proofs.RowLemmas.{rows-told}

-- the views are those of the file before, without events and prepared transactions, with the first states, with all states, with all types, and with all objects
module _ (old none first states types new : View) (starts : List ℕ) (n prepared_before : ℕ) (header : Header) (front back : List FirstState) (texts : List (List ℕ)) (lines : List ObjectLine) (known count : ℕ)
    (kept : IsKeptFile old starts n prepared_before header) (gone : EmptiesEpoch old none) (again : Rewrites none first 4 (value_rows state_row 0 front))
    (more_states : AreBehind state_row first states 4 count back) (more_types : AreBehind type_row states types 2 known texts) (more_objects : AreBehind object_row types new 3 count lines)
    (many : length front ≡ count) (many_types : length (contents_of old.trees).types ≡ known) (many_objects : length (contents_of old.trees).objects ≡ count) where
  before : IsFile old.trees
  before = kept.file gone.sound

  all : Rewrites first states 4 (value_rows state_row 0 (front ++ back))
  all = more_states front again.rows_are many

  -- the types were as before till then
  types-before : states.trees 2 ≡ value_rows type_row 0 (contents_of old.trees).types
  types-before = all.others 2 (λ is. omega (arith, is)) ∙ again.others 2 (λ is. omega (arith, is)) ∙ gone.others 2 (λ is. omega (arith, is)) (λ is. omega (arith, is)) (lit< tt) ∙ before.types

  typed : Rewrites states types 2 (value_rows type_row 0 ((contents_of old.trees).types ++ texts))
  typed = more_types (contents_of old.trees).types types-before many_types

  -- and so were the objects
  objects-before : types.trees 3 ≡ value_rows object_row 0 (contents_of old.trees).objects
  objects-before =
      typed.others 3 (λ is. omega (arith, is)) ∙ all.others 3 (λ is. omega (arith, is)) ∙ again.others 3 (λ is. omega (arith, is)) ∙ gone.others 3 (λ is. omega (arith, is)) (λ is. omega (arith, is)) (lit< tt) ∙ before.objects

  named : Rewrites types new 3 (value_rows object_row 0 ((contents_of old.trees).objects ++ lines))
  named = more_objects (contents_of old.trees).objects objects-before many_objects

  -- a table that is none of these is as without events
  same : (t : ℕ) → t ≢ 2 → t ≢ 3 → t ≢ 4 → new.trees t ≡ none.trees t
  same t not2 not3 not4 = named.others t not3 ∙ typed.others t not2 ∙ all.others t not4 ∙ again.others t not4

  stays : (t : ℕ) → t ≢ 0 → t ≢ 2 → t ≢ 3 → t ≢ 4 → t ≢ 5 → t < 7 → new.trees t ≡ old.trees t
  stays t not0 not2 not3 not4 not5 low = same t not2 not3 not4 ∙ gone.others t not0 not5 low

  events : new.trees 0 ≡ []
  events = same 0 (λ is. omega (arith, is)) (λ is. omega (arith, is)) (λ is. omega (arith, is)) ∙ gone.events

  prepared : new.trees 5 ≡ []
  prepared = same 5 (λ is. omega (arith, is)) (λ is. omega (arith, is)) (λ is. omega (arith, is)) ∙ gone.prepared

  headers : new.trees 1 ≡ old.trees 1
  headers = stays 1 (λ is. omega (arith, is)) (λ is. omega (arith, is)) (λ is. omega (arith, is)) (λ is. omega (arith, is)) (λ is. omega (arith, is)) (lit< tt)

  type-rows : new.trees 2 ≡ value_rows type_row 0 ((contents_of old.trees).types ++ texts)
  type-rows = named.others 2 (λ is. omega (arith, is)) ∙ typed.rows_are

  state-rows : new.trees 4 ≡ value_rows state_row 0 (front ++ back)
  state-rows = named.others 4 (λ is. omega (arith, is)) ∙ typed.others 4 (λ is. omega (arith, is)) ∙ all.rows_are

  types-told : map type_told (new.trees 2) ≡ (contents_of old.trees).types ++ texts
  types-told = ap (map type_told) type-rows ∙ rows-told type_row type_told type_read_back 0 ((contents_of old.trees).types ++ texts)

  objects-told : map object_told (new.trees 3) ≡ (contents_of old.trees).objects ++ lines
  objects-told = ap (map object_told) named.rows_are ∙ rows-told object_row object_told object_read_back 0 ((contents_of old.trees).objects ++ lines)

  states-told : map state_told (new.trees 4) ≡ front ++ back
  states-told = ap (map state_told) state-rows ∙ rows-told state_row state_told state_read_back 0 (front ++ back)

  pub outcome-rows-same : new.trees 6 ≡ old.trees 6
  outcome-rows-same = stays 6 (λ is. omega (arith, is)) (λ is. omega (arith, is)) (λ is. omega (arith, is)) (λ is. omega (arith, is)) (λ is. omega (arith, is)) (lit< tt)

  pub extends-numbers : (m : Numbers) (index : OutcomeIndex) → CountsOutcomes old m index → CountsOutcomes new m index
  extends-numbers m index has = same-numbers old new m index outcome-rows-same gone.sound has

  pub extends : contents_of new.trees ≡ extended_at (contents_of old.trees) texts lines (front ++ back)
  extends = rw (events, headers, types-told, objects-told, states-told, prepared, outcome-rows-same) refl

  committed-same : new.committed ≡ old.committed
  committed-same = named.committed ∙ typed.committed ∙ all.committed ∙ again.committed ∙ gone.committed

  pub begins-anew : IsKeptFile new [] 0 0 header
  begins-anew = record {
    tables = record { each = λ t low. ap (λ s. s t) (named.shape ∙ typed.shape ∙ all.shape ∙ again.shape) ∙ gone.tables.each t low };
    file = λ _. record {
      events = rw events refl;
      headers = rw headers before.headers;
      types = type-rows ∙ ap (value_rows type_row 0) (sym types-told);
      objects = named.rows_are ∙ ap (value_rows object_row 0) (sym objects-told);
      states = state-rows ∙ ap (value_rows state_row 0) (sym states-told);
      prepared = rw prepared refl;
      unprepared = λ _. prepared;
      outcomes = rw (headers, outcome-rows-same) before.outcomes;
    };
    count_is = λ _. rw events refl;
    starts_are = λ _. rw events refl;
    short = λ _. rw events tt;
    header_is = λ _. rw headers (kept.header_is gone.sound);
    prepared_are = λ _. rw prepared refl;
    kept = λ is_open. subst IsFile (sym committed-same)
        (kept.kept (subst IsTrue (named.is_open ∙ typed.is_open ∙ all.is_open ∙ again.is_open ∙ gone.is_open) is_open));
    numbered = subst IsTrue (sym (named.numbered ∙ typed.numbered ∙ all.numbered ∙ again.numbered)) gone.numbered;
    named = λ _. subst IsNamedOnce (sym (same catalog_tree (λ is. omega (arith, is)) (λ is. omega (arith, is)) (λ is. omega (arith, is)))) gone.named;
  }
