-- Rows of values at their positions.
use Rattle.std.proofs.Common.{◌≡◌, refl, ap, ℕ, zero, suc, ◌+◌, ◌<◌, ◌≤◌, List, [], ◌∷◌, ◌++◌, drop, length, map, set, take, arith, ◌∙◌, sym, append_assoc}
use Rattle.std.specs.Prelude.{pos}
use Rattle.std.specs.declared.cmp.Ordering.TheVariants.{Less, Equal}
use Rattle.sqlite_value.specs.declared.value.Value.TheVariants.{Int}
use Rattle.sqlite_value.specs.declared.keys.Order.{Order}
use Rattle.sqlite_value.specs.Order.{Row, value_cmp}
use Rattle.sqlite_value.specs.Keys.{first_key, plain, prefix_cmp}
use Rattle.sqlite_value.proofs.OrderLemmas.{then-Equal, value_cmp-Int}
use Rattle.std.proofs.Math.Seq.{take-append_seam}
use Rattle.std.proofs.lemmas.List.{append-nil, length-take, take_all, take-map}
use Rattle.std.proofs.lemmas.Int.{ints}
use Rattle.std.proofs.lemmas.Bool.Decides.{nat_tests}
use Rattle.sqlite_trees.specs.Tree.{from_key, put_row, rowid}
use Rattle.journal.specs.Rows.{value_rows}

-- a lower position comes first
pub lower : (m n : ℕ) → m < n → value_cmp (Int (pos m)) (Int (pos n)) ≡ Less
lower m n h = value_cmp-Int (pos m) (pos n) ∙ grind (arith, ints, nat_tests)

module _ {E : Type 0} (row_at : ℕ → E → Row) where
  -- one more row
  pub rows-more : (m n : ℕ) (es : List E) (e : E) → m + length es ≡ n → value_rows row_at m (es ++ e ∷ []) ≡ value_rows row_at m es ++ row_at n e ∷ []
  rows-more m n [] e h = let same : n ≡ m = omega arith in rw same refl
  rows-more m n (first ∷ es) e h = ap (λ more. row_at m first ∷ more) (rows-more (suc m) n es e (omega arith))

  -- one more row is read
  pub reads-more : (left : List Row) (m n : ℕ) (es : List E) (e : E) → m + length es ≡ n → value_rows row_at m es ++ row_at n e ∷ left ≡ value_rows row_at m (es ++ e ∷ []) ++ left
  reads-more left m n es e h =
      sym (append_assoc (value_rows row_at m es) (row_at n e ∷ []) left) ∙ ap (λ front. front ++ left) (sym (rows-more m n es e h))

  -- as many rows as values
  pub length-rows : (m : ℕ) (es : List E) → length (value_rows row_at m es) ≡ length es
  length-rows m [] = refl
  length-rows m (e ∷ es) = ap suc (length-rows (suc m) es)

  -- they are the first ones, where they are as many as were asked for, or where there are no more
  pub first-rows : (count m : ℕ) (es : List E) (left : List Row) → length es ≡ count → value_rows row_at m es ≡ take count (value_rows row_at m es ++ left)
  first-rows count m es left many = sym (ap (λ n. take n (value_rows row_at m es ++ left)) (sym (length-rows m es ∙ many)) ∙ take-append_seam (value_rows row_at m es) left)

  pub all-rows : (count m : ℕ) (es : List E) (left : List Row) → length es ≤ count → left ≡ [] → value_rows row_at m es ≡ take count (value_rows row_at m es ++ left)
  all-rows count m es left short none =
      sym (ap (λ left. take count (value_rows row_at m es ++ left)) none ∙ ap (take count) (append-nil (value_rows row_at m es)) ∙ take_all count (value_rows row_at m es) (omega (arith, length-rows m es, short)))

  pub whole-rows : (count m : ℕ) (es : List E) (all : List Row) → length es < count → value_rows row_at m es ≡ take count all → all ≡ value_rows row_at m es
  whole-rows count m es all few is = sym (is ∙ take_all count all (omega (arith, length-rows m es, ap length is, length-take count all, few)))

  -- the rows say their values
  pub rows-told : (told : Row → E) → ((n : ℕ) (e : E) → told (row_at n e) ≡ e) → (m : ℕ) (es : List E) → map told (value_rows row_at m es) ≡ es
  rows-told told back m [] = refl
  rows-told told back m (e ∷ es) = ap (λ x. x ∷ map told (value_rows row_at (suc m) es)) (back m e) ∙ ap (λ more. e ∷ more) (rows-told told back (suc m) es)

-- a seek with no key begins at the first row
pub from_nothing : (o : Order) (all : List Row) → from_key o [] all ≡ all
from_nothing o [] = refl
from_nothing o ([] ∷ all) = refl
from_nothing o ((v ∷ r) ∷ all) = refl

-- a seek of a position begins at its row
module _ {E : Type 0} (row_at : ℕ → E → Row) (keyed : (n : ℕ) (e : E) → (rest : Row) × (row_at n e ≡ Int (pos n) ∷ rest)) where
  compared : (m n : ℕ) (e : E) → prefix_cmp plain (row_at m e) (Int (pos n) ∷ []) ≡ value_cmp (Int (pos m)) (Int (pos n))
  unfolding first_key
  compared m n e = rw ((keyed m e).1) (then-Equal (value_cmp (Int (pos m)) (Int (pos n))))

  pub from_position : (k m n : ℕ) (es : List E) → m + k ≡ n → from_key plain (Int (pos n) ∷ []) (value_rows row_at m es) ≡ value_rows row_at n (drop k es)
  from_position zero m n [] h = refl
  from_position (suc k) m n [] h = refl
  from_position zero m n (e ∷ es) h =
      let same : n ≡ m = omega (arith, h) in
      let equal : prefix_cmp plain (row_at m e) (Int (pos m) ∷ []) ≡ Equal = compared m m e ∙ value_cmp-Int (pos m) (pos m) ∙ grind (arith, ints, nat_tests) in
      rw same (rw equal refl)
  from_position (suc k) m n (e ∷ es) h =
      let less : prefix_cmp plain (row_at m e) (Int (pos n) ∷ []) ≡ Less = compared m n e ∙ lower m n (omega (arith, h)) in
      rw less (from_position k (suc m) n es (omega (arith, h)))

-- the values of the first rows are the first values
pub told-first : {E : Type 0} (row_at : ℕ → E → Row) (told : Row → E) → ((n : ℕ) (e : E) → told (row_at n e) ≡ e) → (n count : ℕ) (es all : List E)
    → value_rows row_at n es ≡ take count (value_rows row_at n all) → es ≡ take count all
told-first row_at told back n count es all is =
    sym (rows-told row_at told back n es) ∙ ap (map told) is ∙ sym (take-map told count (value_rows row_at n all)) ∙ ap (take count) (rows-told row_at told back n all)

-- ---- a row is written

module _ {E : Type 0} (row_at : ℕ → E → Row) (key : (n : ℕ) (e : E) → rowid (row_at n e) ≡ Int (pos n)) where
  -- after the others
  pub put-more : (m n : ℕ) (es : List E) (e : E) → m + length es ≡ n → put_row (row_at n e) (value_rows row_at m es) ≡ value_rows row_at m (es ++ e ∷ [])
  put-more m n [] e h = let same : n ≡ m = omega arith in rw same refl
  put-more m n (x ∷ es) e h =
      let less : value_cmp (rowid (row_at m x)) (rowid (row_at n e)) ≡ Less = rw (key m x, key n e) (lower m n (omega arith)) in
      rw less (ap (λ more. row_at m x ∷ more) (put-more (suc m) n es e (omega arith)))

  -- the values that the rows say then
  pub told-more : (told : Row → E) → ((n : ℕ) (e : E) → told (row_at n e) ≡ e) → (n : ℕ) (all : List Row) (e : E) → all ≡ value_rows row_at 0 (map told all) → n ≡ length (map told all)
      → map told (put_row (row_at n e) all) ≡ map told all ++ e ∷ []
  told-more told back n all e is many =
      ap (λ rs. map told (put_row (row_at n e) rs)) is
      ∙ ap (map told) (put-more 0 n (map told all) e (omega arith))
      ∙ rows-told row_at told back 0 (map told all ++ e ∷ [])

  -- and the rows are those of these values
  pub rows-of-more : (told : Row → E) → ((n : ℕ) (e : E) → told (row_at n e) ≡ e) → (n : ℕ) (all : List Row) (e : E) → all ≡ value_rows row_at 0 (map told all) → n ≡ length (map told all)
      → put_row (row_at n e) all ≡ value_rows row_at 0 (map told (put_row (row_at n e) all))
  rows-of-more told back n all e is many =
      ap (put_row (row_at n e)) is
      ∙ put-more 0 n (map told all) e (omega arith)
      ∙ ap (value_rows row_at 0) (sym (told-more told back n all e is many))

  -- in the place of one
  pub put-set : (m n i : ℕ) (es : List E) (e : E) → m + i ≡ n → i < length es → put_row (row_at n e) (value_rows row_at m es) ≡ value_rows row_at m (set es i e)
  put-set m n i [] e at h = absurd (omega (arith, h))
  put-set m n zero (x ∷ es) e at h =
      let same : n ≡ m = omega (arith, at) in
      let equal : value_cmp (rowid (row_at m x)) (rowid (row_at m e)) ≡ Equal = rw (key m x, key m e) (value_cmp-Int (pos m) (pos m) ∙ grind (arith, ints, nat_tests)) in
      rw same (rw equal refl)
  put-set m n (suc i) (x ∷ es) e at h =
      let less : value_cmp (rowid (row_at m x)) (rowid (row_at n e)) ≡ Less = rw (key m x, key n e) (lower m n (omega (arith, at))) in
      rw less (ap (λ more. row_at m x ∷ more) (put-set (suc m) n i es e (omega (arith, at)) (omega (arith, h))))
