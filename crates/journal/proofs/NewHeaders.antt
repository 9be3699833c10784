-- The header is written anew.
use Rattle.std.proofs.Common.{◌≡◌, ◌<◌, ◌≤◌, arith, refl, sym, ap, subst, ℕ, List, [], ◌∷◌, length, map, ◌∙◌, IsTrue, lit<}
use Rattle.sqlite_trees.specs.Objects.{catalog_tree}
use Rattle.sqlite_trees.specs.Tree.{put_row}
use Rattle.sqlite_trees.specs.View.{View, SetsTree}
use Rattle.event_text.specs.EventText.{AreShort}
use Rattle.journal.specs.declared.header.Header.{Header}
use Rattle.journal.specs.HeaderRow.{header_row, header_told}
use Rattle.journal.specs.Rows.{value_rows}
use Rattle.journal.specs.EventRow.{event_told, row_starts}
use Rattle.journal.specs.Contents.{Contents, IsFile, IsOlderThan, contents_of, in_life, keyed_format, newest_format, preparing_format}
use Rattle.journal.specs.Journal.{HasTables, IsKeptFile, IsNamedOnce}
use Rattle.journal.proofs.RowLemmas.{put-set}

module _ (old new : View) (starts : List ℕ) (n prepared : ℕ) (was now : Header) (sets : SetsTree old new 1 (put_row (header_row 0 now))) (kept : IsKeptFile old starts n prepared was) where
  before : IsFile old.trees
  before = kept.file sets.sound

  one : old.trees 1 ≡ header_row 0 was ∷ []
  one = before.headers ∙ ap (value_rows header_row 0) (kept.header_is sets.sound)

  other : put_row (header_row 0 now) (old.trees 1) ≡ header_row 0 now ∷ []
  other = ap (put_row (header_row 0 now)) one ∙ put-set header_row (λ m h. refl) 0 0 0 (was ∷ []) now refl (lit< tt)

  told : contents_of new.trees ≡ record (contents_of old.trees) { headers = now ∷ [] }
  told = ap (λ (v : View). contents_of v.trees) sets.is ∙ ap (λ rs. record (contents_of old.trees) { headers = map header_told rs }) other

  -- which is of no older format than one up to the newest
  aged : (format : ℕ) → format ≤ newest_format → now.format ≡ newest_format → IsOlderThan format (map header_told (put_row (header_row 0 now) (old.trees 1))) → ⊥
  aged format within newest older =
      let low : now.format < format = subst (IsOlderThan format) (ap (map header_told) other) older in
      omega (arith, within, newest, low)

  -- it is a file of a store with this header
  pub raises : now.format ≡ newest_format → IsKeptFile new starts n prepared now
  raises newest = record {
    tables = subst (λ (v : View). HasTables v) (sym sets.is) (record { each = kept.tables.each });
    file = λ _. subst (λ (v : View). IsFile v.trees) (sym sets.is) (record {
      events = before.events;
      headers = other ∙ ap (value_rows header_row 0) (sym (ap (map header_told) other));
      types = before.types;
      objects = before.objects;
      states = before.states;
      prepared = before.prepared;
      unprepared = λ older. absurd (aged preparing_format (omega arith) newest older);
      outcomes = λ older. absurd (aged keyed_format (omega arith) newest older);
    });
    count_is = λ _. kept.count_is sets.sound ∙ ap (λ (c : Contents). length c.events) (sym told);
    starts_are = λ _. kept.starts_are sets.sound ∙ ap (λ (v : View). row_starts 0 (map event_told (v.trees 0))) (sym sets.is);
    short = λ _. subst (λ (c : Contents). AreShort c.events) (sym told) (kept.short sets.sound);
    header_is = λ _. ap (λ (c : Contents). c.headers) told;
    prepared_are = λ _. kept.prepared_are sets.sound ∙ ap (λ (c : Contents). length c.prepared) (sym told);
    kept = λ is_open. subst (λ (v : View). IsTrue v.is_open → IsFile v.committed) (sym sets.is) kept.kept is_open;
    numbered = subst (λ (v : View). IsTrue v.is_numbered) (sym sets.is) kept.numbered;
    named = λ _. subst (λ (v : View). IsNamedOnce (v.trees catalog_tree)) (sym sets.is) (kept.named sets.sound);
  }

  -- and says what it said, in this life
  pub in-life : now ≡ record was { format = newest_format; life = now.life } → contents_of new.trees ≡ in_life (contents_of old.trees) now.life
  in-life raised =
      told ∙ ap (λ hs. record (contents_of old.trees) { headers = hs })
      (ap (λ (h : Header). h ∷ []) raised ∙ sym (ap (map (λ (h : Header). let r : Header = record h { format = newest_format; life = now.life } in r)) (kept.header_is sets.sound)))
