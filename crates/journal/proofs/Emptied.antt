-- A table is destroyed and made again, and those of an epoch one after the other.
use Rattle.std.proofs.Common.{◌≡◌, ◌≢◌, ℕ, ◌+◌, ◌<◌, List, [], ◌∷◌, length, not, false, true, inl, inr, IsTrue, ◌==◌, lit<, refl, sym, ap, subst, ◌∙◌, arith}
use Rattle.std.specs.Prelude.{pos}
use Rattle.std.specs.List.{AllByRecursion}
use Rattle.std.specs.Ordering.{is_eq, match_ordering}
use Rattle.std.specs.declared.cmp.Ordering.TheVariants.{Less, Equal, Greater}
use Rattle.std.proofs.lemmas.Bool.{cases_eq, ne_eqb, not-true}
use Rattle.std.proofs.lemmas.Bool.Decides.{nat_tests}
use Rattle.std.proofs.lemmas.Int.{ints}
use Rattle.type_table.proofs.Elements.{each-filter, each-passes, each-weaker}
use Rattle.sqlite_value.specs.declared.value.Value.TheVariants.{Int, Text}
use Rattle.sqlite_value.specs.Order.{Row, column, value_cmp}
use Rattle.sqlite_value.proofs.OrderLemmas.{value_cmp-Int}
use Rattle.sqlite_trees.specs.declared.store.Shape.TheVariants.{Absent, Table}
use Rattle.sqlite_trees.specs.declared.schema.Object.{Object}
use Rattle.sqlite_trees.specs.Objects.{catalog_tree, is_frozen, IsFreeFor, Destroys, SetsObject}
use Rattle.sqlite_trees.specs.Tree.{has_rowid, put_row, rowid, without_rowid}
use Rattle.sqlite_trees.specs.View.{View}
use Rattle.journal.specs.Journal.{IsNamedOnce, IsOwnNamed, IsRemade, name_column}
use Rattle.journal.specs.EmptyTable.{Empties, EmptiesEpoch, MayEmpty}

-- a row more
pub each-put : (P : Row → Type 0) (new : Row) (rs : List Row) → AllByRecursion P rs → P new → AllByRecursion P (put_row new rs)
each-put P new [] all here = (here, tt)
each-put P new (r ∷ rs) all here =
    elim (value_cmp (rowid r) (rowid new)) as (λ o. AllByRecursion P (match_ordering o (r ∷ put_row new rs) (new ∷ rs) (new ∷ r ∷ rs))) [
      | Less ↦ (all.0, each-put P new rs all.1 here)
      | Equal ↦ (here, all.1)
      | Greater ↦ (here, all)
    ]

-- a row with this number has it
pub numbered-so : (r : Row) (n : ℕ) → rowid r ≡ Int (pos n) → has_rowid (pos n) r ≡ true
numbered-so r n is = ap (λ v. is_eq (value_cmp v (Int (pos n)))) is ∙ ap is_eq (value_cmp-Int (pos n) (pos n)) ∙ grind (arith, ints, nat_tests)

-- a table that is made anew has a low number
low-number : (table : ℕ) (name : List ℕ) → IsRemade table name → table < 7
low-number table name (inl is) = rw (is.0) (lit< tt)
low-number table name (inr (inl is)) = rw (is.0) (lit< tt)
low-number table name (inr (inr is)) = rw (is.0) (lit< tt)

-- two of them don't have one name
two-names : (t u : ℕ) (m n : List ℕ) → IsRemade t m → IsRemade u n → m ≡ n → t ≡ u
two-names t u m n (inl a) (inl b) same = a.0 ∙ sym b.0
two-names t u m n (inl a) (inr (inl b)) same = absurd (omega (arith, ap length (sym a.1 ∙ same ∙ b.1)))
two-names t u m n (inl a) (inr (inr b)) same = absurd (omega (arith, ap length (sym a.1 ∙ same ∙ b.1)))
two-names t u m n (inr (inl a)) (inl b) same = absurd (omega (arith, ap length (sym a.1 ∙ same ∙ b.1)))
two-names t u m n (inr (inl a)) (inr (inl b)) same = a.0 ∙ sym b.0
two-names t u m n (inr (inl a)) (inr (inr b)) same = absurd (omega (arith, ap length (sym a.1 ∙ same ∙ b.1)))
two-names t u m n (inr (inr a)) (inl b) same = absurd (omega (arith, ap length (sym a.1 ∙ same ∙ b.1)))
two-names t u m n (inr (inr a)) (inr (inl b)) same = absurd (omega (arith, ap length (sym a.1 ∙ same ∙ b.1)))
two-names t u m n (inr (inr a)) (inr (inr b)) same = a.0 ∙ sym b.0

-- no object is left with the name
unnamed : (table : ℕ) (name : List ℕ) → IsRemade table name → (rs : List Row) → IsNamedOnce rs → AllByRecursion (λ r. column r name_column ≢ Text name) (without_rowid (pos (table + 1)) rs)
unnamed table name remade rs named = each-passes (λ r. column r name_column ≢ Text name) (λ r. not (has_rowid (pos (table + 1)) r)) rs
    (each-weaker (λ r his other. his table name remade (not-true (has_rowid (pos (table + 1)) r) other)) rs named)

module _ (old middle : View) (table : ℕ) (o : Object) (remade : IsRemade table o.name.now) (may : MayEmpty old) (gone : Destroys old middle table) (shaped : o.shape ≡ Table) where
  nobody : AllByRecursion (λ r. column r name_column ≢ Text o.name.now) (middle.trees catalog_tree)
  nobody = subst (λ (v : View). AllByRecursion (λ r. column r name_column ≢ Text o.name.now) (v.trees catalog_tree)) (sym gone.is) (unnamed table o.name.now remade (old.trees catalog_tree) (may.named gone.sound))

  pub free : IsFreeFor middle table o
  free = record {
    numbered = subst (λ (v : View). IsTrue v.is_numbered) (sym gone.is) may.numbered;
    low = let low = low-number table o.name.now remade in omega (arith, low);
    unused = ap (λ (v : View). v.shape table) gone.is ∙ grind (arith, nat_tests);
    shaped = λ is. let x : Table ≡ Absent = sym shaped ∙ is in absurd (cc);
    thawed = ap is_frozen shaped;
    unnamed = nobody;
  }

-- it is made again: its row in the list has its number and its name
module _ (old middle new : View) (table : ℕ) (name : List ℕ) (row : Row) (reals : ℕ) (remade : IsRemade table name) (may : MayEmpty old) (gone : Destroys old middle table) (made : SetsObject middle new table Table reals (put_row row))
    (first : rowid row ≡ Int (pos (table + 1))) (called : column row name_column ≡ Text name) where
  text-of : {a b : List ℕ} → Text a ≡ Text b → a ≡ b
  text-of is = cc

  own : IsOwnNamed row
  own other its there elsewhere is =
      let same : table ≡ other = two-names table other name its remade there (text-of (sym called ∙ is)) in
      let here : has_rowid (pos (other + 1)) row ≡ true = ap (λ t. has_rowid (pos (t + 1)) row) (sym same) ∙ numbered-so row (table + 1) first in
      absurd (cc)

  left : IsNamedOnce (middle.trees catalog_tree)
  left = subst (λ (v : View). IsNamedOnce (v.trees catalog_tree)) (sym gone.is) (each-filter IsOwnNamed (λ r. not (has_rowid (pos (table + 1)) r)) (old.trees catalog_tree) (may.named gone.sound))

  low : table < 7
  low = low-number table name remade

  unlisted : (table == catalog_tree) ≡ false
  unlisted = ne_eqb table catalog_tree (λ is. omega (arith, is, low))

  others : (t : ℕ) → t ≢ table → t < 7 → new.trees t ≡ old.trees t
  others t differs small =
      let none : (t == table) ≡ false = ne_eqb t table differs in
      let other : (t == catalog_tree) ≡ false = ne_eqb t catalog_tree (λ is. omega (arith, is, small)) in
      ap (λ (v : View). v.trees t) made.is ∙ rw (other, none) (ap (λ (v : View). v.trees t) gone.is ∙ rw (other, none) refl)

  shapes : (t : ℕ) → t < 7 → new.shape t ≡ Table
  shapes t small =
      elim (cases_eq t table) [
        | inl is ↦ ap (λ (v : View). v.shape t) made.is ∙ rw is (grind (arith, nat_tests))
        | inr differs ↦
            let none : (t == table) ≡ false = ne_eqb t table differs in
            ap (λ (v : View). v.shape t) made.is ∙ rw none (ap (λ (v : View). v.shape t) gone.is ∙ rw none (may.tables.each t small))
      ]

  pub empties : Empties old new table
  empties = record {
    sound = gone.sound;
    rows = ap (λ (v : View). v.trees table) made.is ∙ rw unlisted (grind (arith, nat_tests));
    others = others;
    tables = record { each = shapes };
    numbered = subst (λ (v : View). IsTrue v.is_numbered) (sym made.is) (subst (λ (v : View). IsTrue v.is_numbered) (sym gone.is) may.numbered);
    named = subst (λ (v : View). IsNamedOnce (v.trees catalog_tree)) (sym made.is) (each-put IsOwnNamed row (middle.trees catalog_tree) left own);
    committed = ap (λ (v : View). v.committed) made.is ∙ ap (λ (v : View). v.committed) gone.is;
    is_open = ap (λ (v : View). v.is_open) made.is ∙ ap (λ (v : View). v.is_open) gone.is;
    is_broken = ap (λ (v : View). v.is_broken) made.is ∙ ap (λ (v : View). v.is_broken) gone.is;
  }

-- ---- that of events, and then that of prepared transactions

pub both-empty : (old between new : View) → Empties old between 0 → Empties between new 5 → EmptiesEpoch old new
both-empty old between new first second = record {
  sound = first.sound;
  events = second.others 0 (λ is. omega (arith, is)) (lit< tt) ∙ first.rows;
  prepared = second.rows;
  others = λ t not0 not5 low. second.others t not5 low ∙ first.others t not0 low;
  tables = second.tables;
  numbered = second.numbered;
  named = second.named;
  committed = second.committed ∙ first.committed;
  is_open = second.is_open ∙ first.is_open;
}
