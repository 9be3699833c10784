-- A row is put at its number, or those with a number are freed: what is found at each number.
use Rattle.std.proofs.Common.{◌≡◌, ◌≢◌, ℕ, List, [], ◌∷◌, filter, slice_get, Some, false, true, refl, sym, ap, ◌∙◌, arith, Bool}
use Rattle.std.specs.Prelude.{ℤ, pos, negsuc}
use Rattle.std.specs.Ordering.{is_eq, match_ordering}
use Rattle.std.specs.declared.cmp.Ordering.{Ordering}
use Rattle.std.specs.declared.cmp.Ordering.TheVariants.{Less, Equal, Greater}
use Rattle.std.proofs.lemmas.Bool.Decides.{nat_tests}
use Rattle.std.proofs.lemmas.Int.{ints}
use Rattle.sqlite_value.specs.declared.value.Value.TheVariants.{Int}
use Rattle.sqlite_value.specs.Order.{Row, value_cmp}
use Rattle.sqlite_value.proofs.OrderLemmas.{value_cmp-Int, value_cmp_total}
use Rattle.sqlite_trees.specs.Tree.{has_rowid, put_row, rowid, without_rowid}

-- ---- a row is put at its number

module _ (p : ℤ) (new : Row) (key : rowid new ≡ Int p) where
  -- it is the first one there
  pub put-own : has_rowid p new ≡ true → (rows : List Row) → slice_get (filter (has_rowid p) (put_row new rows)) 0 ≡ Some new
  put-own own [] = rw own refl
  put-own own (r ∷ rows) = step (value_cmp (rowid r) (rowid new)) refl (put-own own rows)
    where
      step : (o : Ordering) → value_cmp (rowid r) (rowid new) ≡ o
          → slice_get (filter (has_rowid p) (put_row new rows)) 0 ≡ Some new
          → slice_get (filter (has_rowid p) (match_ordering o (r ∷ put_row new rows) (new ∷ rows) (new ∷ r ∷ rows))) 0 ≡ Some new
      step Less is more =
          let below : has_rowid p r ≡ false = ap (λ v. is_eq (value_cmp (rowid r) v)) (sym key) ∙ ap is_eq is in
          rw below more
      step Equal is more = rw own refl
      step Greater is more = rw own refl

  -- those with another number are as they were
  pub put-other : (n : ℤ) → has_rowid n new ≡ false → (rows : List Row) → filter (has_rowid n) (put_row new rows) ≡ filter (has_rowid n) rows
  put-other n apart [] = rw apart refl
  put-other n apart (r ∷ rows) = step (value_cmp (rowid r) (rowid new)) refl (put-other n apart rows)
    where
      step : (o : Ordering) → value_cmp (rowid r) (rowid new) ≡ o
          → filter (has_rowid n) (put_row new rows) ≡ filter (has_rowid n) rows
          → filter (has_rowid n) (match_ordering o (r ∷ put_row new rows) (new ∷ rows) (new ∷ r ∷ rows)) ≡ filter (has_rowid n) (r ∷ rows)
      step Less is more = rw more refl
      step Equal is more =
          let alike : has_rowid n r ≡ false = ap is_eq (value_cmp_total.congr (rowid r) (rowid new) (Int n) is) ∙ apart in
          rw (apart, alike) refl
      step Greater is more = rw apart refl

-- ---- numbers that differ

pub pos-apart : (p n : ℕ) → n ≢ p → is_eq (value_cmp (Int (pos p)) (Int (pos n))) ≡ false
pos-apart p n differs = ap is_eq (value_cmp-Int (pos p) (pos n)) ∙ grind (arith, ints, nat_tests)

-- a row at a place isn't the row that is nowhere
pub place-nowhere : (p : ℕ) → is_eq (value_cmp (Int (pos p)) (Int (negsuc 0))) ≡ false
place-nowhere p = ap is_eq (value_cmp-Int (pos p) (negsuc 0)) ∙ grind (arith, ints, nat_tests)

pub nowhere-place : (n : ℕ) → is_eq (value_cmp (Int (negsuc 0)) (Int (pos n))) ≡ false
nowhere-place n = ap is_eq (value_cmp-Int (negsuc 0) (pos n)) ∙ grind (arith, ints, nat_tests)

pub nowhere-itself : is_eq (value_cmp (Int (negsuc 0)) (Int (negsuc 0))) ≡ true
nowhere-itself = ap is_eq (value_cmp-Int (negsuc 0) (negsuc 0)) ∙ grind (arith, ints, nat_tests)

pub place-itself : (p : ℕ) → is_eq (value_cmp (Int (pos p)) (Int (pos p))) ≡ true
place-itself p = ap is_eq (value_cmp-Int (pos p) (pos p)) ∙ grind (arith, ints, nat_tests)

-- ---- those with a number are freed

-- none of them is left
pub freed-own : (p : ℤ) (rows : List Row) → filter (has_rowid p) (without_rowid p rows) ≡ []
freed-own p [] = refl
freed-own p (r ∷ rows) = step (has_rowid p r) refl (freed-own p rows)
  where
    step : (b : Bool) → has_rowid p r ≡ b → filter (has_rowid p) (without_rowid p rows) ≡ [] → filter (has_rowid p) (without_rowid p (r ∷ rows)) ≡ []
    step true is more = rw is more
    step false is more = rw (is, is) more

-- and those with another number are as they were
pub freed-other : (p n : ℤ) → is_eq (value_cmp (Int n) (Int p)) ≡ false → (rows : List Row) → filter (has_rowid n) (without_rowid p rows) ≡ filter (has_rowid n) rows
freed-other p n apart [] = refl
freed-other p n apart (r ∷ rows) = step (has_rowid n r) refl (freed-other p n apart rows)
  where
    equal : (o : Ordering) → is_eq o ≡ true → o ≡ Equal
    equal Less is = absurd (cc)
    equal Equal is = refl
    equal Greater is = absurd (cc)

    -- one that has the other number isn't freed
    stays : has_rowid n r ≡ true → has_rowid p r ≡ false
    stays is = ap is_eq (value_cmp_total.congr (rowid r) (Int n) (Int p) (equal (value_cmp (rowid r) (Int n)) is)) ∙ apart

    kept : (b : Bool) → has_rowid p r ≡ b → has_rowid n r ≡ false → filter (has_rowid n) (without_rowid p rows) ≡ filter (has_rowid n) rows → filter (has_rowid n) (without_rowid p (r ∷ rows)) ≡ filter (has_rowid n) (r ∷ rows)
    kept true gone is more = rw (gone, is) more
    kept false gone is more = rw (gone, is) more

    step : (b : Bool) → has_rowid n r ≡ b → filter (has_rowid n) (without_rowid p rows) ≡ filter (has_rowid n) rows → filter (has_rowid n) (without_rowid p (r ∷ rows)) ≡ filter (has_rowid n) (r ∷ rows)
    step true is more = let there : has_rowid p r ≡ false = stays is in rw (there, is) (ap (λ rs. r ∷ rs) more)
    step false is more = kept (has_rowid p r) refl is more
