-- A table is listed otherwise, and its rows stay.
use Rattle.std.proofs.Common.{◌≡◌, ℕ, ◌+◌, ◌<◌, List, [], ◌∷◌, length, map, false, true, inl, inr, IsTrue, ◌==◌, lit<, refl, sym, ap, subst, ◌∙◌, arith}
use Rattle.std.specs.Prelude.{pos}
use Rattle.std.specs.Int.{bit_at}
use Rattle.std.proofs.lemmas.Bool.{ne_eqb}
use Rattle.sqlite_value.specs.declared.value.Value.TheVariants.{Text}
use Rattle.sqlite_value.specs.Order.{Row}
use Rattle.sqlite_trees.specs.declared.store.Shape.TheVariants.{Table}
use Rattle.sqlite_trees.specs.declared.schema.Object.{Object}
use Rattle.sqlite_trees.specs.Objects.{catalog_tree, is_frozen, MayRelist, Relists, object_row}
use Rattle.sqlite_trees.specs.Tree.{has_rowid}
use Rattle.sqlite_trees.specs.View.{View}
use Rattle.event_text.specs.EventText.{AreShort}
use Rattle.journal.specs.declared.header.Header.{Header}
use Rattle.journal.specs.declared.numbers.Numbers.{Numbers}
use Rattle.journal.specs.Contents.{Contents, IsFile, contents_of}
use Rattle.journal.specs.EmptyTable.{IsListedAnew, ListsAnew, MayEmpty}
use Rattle.journal.specs.EventRow.{event_told, row_starts}
use Rattle.journal.specs.OutcomeIndex.{CountsOutcomes}
use Rattle.journal.specs.declared.outcome_index.OutcomeIndex.{OutcomeIndex}
use Rattle.journal.specs.Journal.{IsKeptFile, IsNamedOnce, IsOwnNamed, IsRemade}
use Rattle.journal.proofs.Emptied.{each-put, numbered-so}
use Rattle.journal.proofs.Outcomes.{same-file, same-numbers}

-- it has a number of its own
low-listed : (table : ℕ) (name : List ℕ) → IsListedAnew table name → table < 7
low-listed table name (inl is) = rw (is.0) (lit< tt)
low-listed table name (inr is) = rw (is.0) (lit< tt)

-- and a name that no other table has which is made anew
own-name : (table other : ℕ) (name its : List ℕ) → IsListedAnew table name → IsRemade other its → name ≡ its → table ≡ other
own-name table other name its (inl a) (inl b) same = absurd (let it = sym a.1 ∙ same ∙ b.1 in omega (arith, ap length it))
own-name table other name its (inl a) (inr (inl b)) same = absurd (omega (arith, ap length (sym a.1 ∙ same ∙ b.1)))
own-name table other name its (inl a) (inr (inr b)) same = absurd (omega (arith, ap length (sym a.1 ∙ same ∙ b.1)))
own-name table other name its (inr a) (inl b) same = absurd (omega (arith, ap length (sym a.1 ∙ same ∙ b.1)))
own-name table other name its (inr a) (inr (inl b)) same = absurd (omega (arith, ap length (sym a.1 ∙ same ∙ b.1)))
own-name table other name its (inr a) (inr (inr b)) same = a.0 ∙ sym b.0

-- it may be listed otherwise
pub may-list : (v : View) (table : ℕ) (o : Object) → IsListedAnew table o.name.now → MayEmpty v → o.shape ≡ Table → o.reals ≡ v.reals table → MayRelist v (table, o)
may-list v table o listed may shaped real = record {
  low = let low = low-listed table o.name.now listed in omega (arith, low);
  shaped = may.tables.each table (low-listed table o.name.now listed) ∙ sym shaped;
  present = λ is. let x = sym shaped ∙ is in absurd (cc);
  thawed = ap is_frozen shaped;
  typed = λ c differs. absurd (differs (ap (λ r. bit_at r c) (sym real)));
}

-- rows stay, and so does all that they say
module _ (old new : View) (table : ℕ) (o : Object) (listed : IsListedAnew table o.name.now) (may : MayEmpty old) (lists : Relists old new ((table, o) ∷ [])) where
  abbrev row : Row
  row = object_row table o

  text-of : {a b : List ℕ} → Text a ≡ Text b → a ≡ b
  text-of is = cc

  own : IsOwnNamed row
  own other its there elsewhere is =
      let same : table ≡ other = own-name table other o.name.now its listed there (text-of is) in
      let here : has_rowid (pos (other + 1)) row ≡ true = ap (λ t. has_rowid (pos (t + 1)) row) (sym same) ∙ numbered-so row (table + 1) refl in
      absurd (cc)

  rows : (t : ℕ) → t < 7 → new.trees t ≡ old.trees t
  rows t small =
      let other : (t == catalog_tree) ≡ false = ne_eqb t catalog_tree (λ is. omega (arith, is, small)) in
      ap (λ (v : View). v.trees t) lists.is ∙ rw other refl

  pub lists-anew : ListsAnew old new
  lists-anew = record {
    sound = lists.sound;
    rows = rows;
    tables = record { each = λ t low. ap (λ (v : View). v.shape t) lists.is ∙ may.tables.each t low };
    numbered = subst (λ (v : View). IsTrue v.is_numbered) (sym lists.is) may.numbered;
    named = subst (λ (v : View). IsNamedOnce (v.trees catalog_tree)) (sym lists.is) (each-put IsOwnNamed row (old.trees catalog_tree) (may.named lists.sound) own);
    committed = ap (λ (v : View). v.committed) lists.is;
    is_open = ap (λ (v : View). v.is_open) lists.is;
    is_broken = ap (λ (v : View). v.is_broken) lists.is;
  }

module _ (old new : View) (starts : List ℕ) (n prepared : ℕ) (header : Header) (kept : IsKeptFile old starts n prepared header) (anew : ListsAnew old new) where
  pub says-same : contents_of new.trees ≡ contents_of old.trees
  says-same = rw (anew.rows 0 (lit< tt), anew.rows 1 (lit< tt), anew.rows 2 (lit< tt), anew.rows 3 (lit< tt), anew.rows 4 (lit< tt), anew.rows 5 (lit< tt), anew.rows 6 (lit< tt)) refl

  pub counts-same : (m : Numbers) (index : OutcomeIndex) → CountsOutcomes old m index → CountsOutcomes new m index
  counts-same m index has = same-numbers old new m index (anew.rows 6 (lit< tt)) anew.sound has

  pub file-same : IsKeptFile new starts n prepared header
  file-same = record {
    tables = anew.tables;
    file = λ _. same-file new.trees old.trees anew.rows (kept.file anew.sound);
    count_is = λ _. kept.count_is anew.sound ∙ ap (λ (c : Contents). length c.events) (sym says-same);
    starts_are = λ _. kept.starts_are anew.sound ∙ ap (λ rs. row_starts 0 (map event_told rs)) (sym (anew.rows 0 (lit< tt)));
    short = λ _. subst (λ (c : Contents). AreShort c.events) (sym says-same) (kept.short anew.sound);
    header_is = λ _. ap (λ (c : Contents). c.headers) says-same ∙ kept.header_is anew.sound;
    prepared_are = λ _. kept.prepared_are anew.sound ∙ ap (λ (c : Contents). length c.prepared) (sym says-same);
    kept = λ is_open. subst IsFile (sym anew.committed) (kept.kept (subst IsTrue anew.is_open is_open));
    numbered = anew.numbered;
    named = λ _. anew.named;
  }
