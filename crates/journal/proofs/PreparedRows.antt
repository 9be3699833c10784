-- A transaction is prepared in a file of the newest format.
use Rattle.std.proofs.Common.{◌≡◌, refl, sym, ap, subst, ℕ, ◌+◌, ◌<◌, List, [], ◌∷◌, ◌++◌, length, length-append, map, arith, ◌∙◌, IsTrue}
use Rattle.sqlite_trees.specs.Objects.{catalog_tree}
use Rattle.sqlite_trees.specs.Tree.{put_row}
use Rattle.sqlite_trees.specs.View.{View, SetsTree}
use Rattle.event_text.specs.EventText.{AreShort}
use Rattle.journal.specs.declared.header.Header.{Header}
use Rattle.journal.specs.declared.prepared_row.Prepared.{Prepared}
use Rattle.journal.specs.PreparedRow.{prepared_row, prepared_told, prepared_read_back}
use Rattle.journal.specs.EventRow.{event_told, row_starts}
use Rattle.journal.specs.Contents.{Contents, IsFile, IsOlderThan, contents_of, preparing_format, with_prepared}
use Rattle.journal.specs.Journal.{HasTables, IsKeptFile, IsNamedOnce}
use Rattle.journal.proofs.RowLemmas.{told-more, rows-of-more}

module _ (old new : View) (starts : List ℕ) (n many : ℕ) (header : Header) (p : Prepared) (sets : SetsTree old new 5 (put_row (prepared_row many p)))
    (kept : IsKeptFile old starts n many header) (newest : header.format < preparing_format → ⊥) where
  before : IsFile old.trees
  before = kept.file sets.sound

  told : map prepared_told (put_row (prepared_row many p) (old.trees 5)) ≡ map prepared_told (old.trees 5) ++ p ∷ []
  told = told-more prepared_row (λ m q. refl) prepared_told prepared_read_back many (old.trees 5) p before.prepared (kept.prepared_are sets.sound)

  -- it is behind the others, and nothing else changes
  pub prepares : contents_of new.trees ≡ with_prepared (contents_of old.trees) p
  prepares = ap (λ (v : View). contents_of v.trees) sets.is ∙ ap (λ ps. record (contents_of old.trees) { prepared = ps }) told

  aged : IsOlderThan preparing_format (contents_of old.trees).headers → ⊥
  aged older = newest (subst (IsOlderThan preparing_format) (kept.header_is sets.sound) older)

  -- and it is a file of a store again
  pub prepares-file : IsKeptFile new starts n (many + 1) header
  prepares-file = record {
    tables = subst (λ (v : View). HasTables v) (sym sets.is) (record { each = kept.tables.each });
    file = λ _. subst (λ (v : View). IsFile v.trees) (sym sets.is) (record {
      events = before.events;
      headers = before.headers;
      types = before.types;
      objects = before.objects;
      states = before.states;
      prepared = rows-of-more prepared_row (λ m q. refl) prepared_told prepared_read_back many (old.trees 5) p before.prepared (kept.prepared_are sets.sound);
      unprepared = λ older. absurd (aged older);
      outcomes = before.outcomes;
    });
    count_is = λ _. kept.count_is sets.sound ∙ ap (λ (c : Contents). length c.events) (sym prepares);
    starts_are = λ _. kept.starts_are sets.sound ∙ ap (λ (v : View). row_starts 0 (map event_told (v.trees 0))) (sym sets.is);
    short = λ _. subst (λ (c : Contents). AreShort c.events) (sym prepares) (kept.short sets.sound);
    header_is = λ _. ap (λ (c : Contents). c.headers) prepares ∙ kept.header_is sets.sound;
    prepared_are = λ _.
        let long = ap (λ (c : Contents). length c.prepared) prepares ∙ length-append (contents_of old.trees).prepared (p ∷ []) in
        let was = kept.prepared_are sets.sound in omega arith;
    kept = λ is_open. subst (λ (v : View). IsTrue v.is_open → IsFile v.committed) (sym sets.is) kept.kept is_open;
    numbered = subst (λ (v : View). IsTrue v.is_numbered) (sym sets.is) kept.numbered;
    named = λ _. subst (λ (v : View). IsNamedOnce (v.trees catalog_tree)) (sym sets.is) (kept.named sets.sound);
  }
