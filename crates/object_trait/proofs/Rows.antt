-- Rows in the order of their transactions' numbers: whose is at which place, and where one is put in its place or taken out.
use Rattle.std.proofs.Common.{◌≡◌, ℕ, zero, suc, ◌<◌, ◌≤◌, Bool, true, false, cond, eqb, ltb, List, [], ◌∷◌, map, length, get_or, set, refl, sym, ap, subst, inl, inr, arith}
use Rattle.std.specs.List.{filter, insert, remove, list_any, AllByRecursion}
use Rattle.std.specs.List.Sorted.{IsPartitionedBy, IsPartitionPoint}
use Rattle.std.proofs.lemmas.Bool.{cases_Bool, cases_lt, eqb-true, eqb-false, ne_eqb, eq-eqb, ltb-true, ltb-false, lt-ltb, le-ltb}
use Rattle.std.proofs.lemmas.List.{length-map, get_or-map}
use Rattle.std.proofs.lemmas.List.Elements.{All-from_recursion}
use Rattle.type_table.proofs.Elements.{differ_turned}
use Rattle.object_trait.specs.Orders.{Pairs}
use Rattle.object_trait.specs.Rows.{RowsAscend, row_index, IsRowAt, shown_of, with_row, without_row}

-- ---- numbers in their order

-- what is before a number is before all that it is before
earlier-all : (a b : ℕ) → a ≤ b → (ns : List ℕ) → AllByRecursion (λ n. b < n) ns → AllByRecursion (λ n. a < n) ns
earlier-all a b most [] each = tt
earlier-all a b most (n ∷ ns) each = let first = each.0 in (omega (arith, most, first), earlier-all a b most ns each.1)

-- a smaller number isn't the greater one
not-after : (a b : ℕ) → a < b → ltb b a ≡ false
not-after a b below = le-ltb b a (omega (arith, below))

-- nor is it that one
not-same : (a b : ℕ) → a < b → eqb a b ≡ false
not-same a b below = ne_eqb a b (λ e. omega (arith, below, e))

-- of two different numbers one is the smaller
smaller : (a b : ℕ) → a ≤ b → (a ≡ b → ⊥) → a < b
smaller a b most differ =
    elim (cases_lt a b) [
      | inl below ↦ below
      | inr past ↦ absurd (differ (omega (arith, most, past)))
    ]

-- a smaller number differs from each of these
smaller-differs : (m : ℕ) (ns : List ℕ) → AllByRecursion (λ n. m < n) ns → AllByRecursion (λ n. eqb n m ≡ false) ns
smaller-differs m [] each = tt
smaller-differs m (n ∷ ns) each = let below = each.0 in (ne_eqb n m (λ e. omega (arith, below, e)), smaller-differs m ns each.1)

-- of ordered numbers each differs from each later one
pub ordered-differ : (ns : List ℕ) → Pairs (λ a b. a < b) ns → Pairs (λ a b. eqb b a ≡ false) ns
ordered-differ [] ordered = tt
ordered-differ (n ∷ ns) ordered = (smaller-differs n ns ordered.0, ordered-differ ns ordered.1)

module _ {E : Type 0} (by : E → ℕ) where
  -- ---- the place of a row

  -- it is that of a row, or after all of them
  pub place-within : (t : ℕ) (rows : List E) → row_index by t rows ≤ length rows
  place-within t [] = omega arith
  place-within t (row ∷ rows) =
      let rest = place-within t rows in
      elim (cases_Bool (ltb (by row) t)) [
        | inl below ↦ rw below (omega (arith, rest))
        | inr past ↦ rw past (omega arith)
      ]

  -- those of earlier transactions come first
  pub parted : (t : ℕ) (rows : List E) → RowsAscend by rows → IsPartitionedBy (λ row. ltb (by row) t) rows
  parted t [] ordered i j d most within holds = absurd (omega (arith, within))
  parted t (row ∷ rows) ordered zero zero d most within holds = holds
  parted t (row ∷ rows) ordered zero (suc j) d most within holds =
      let inside : j < length rows = omega (arith, within) in
      let long = length-map rows by in
      let later : by row < by (get_or rows j d) =
      subst (λ n. by row < n) (get_or-map by rows j d 0 inside) (All-from_recursion (λ n. by row < n) (map by rows) ordered.0 j 0 (omega (arith, inside, long))) in
      let low = ltb-true (by (get_or rows j d)) t holds in
      lt-ltb (by row) t (omega (arith, later, low))
  parted t (row ∷ rows) ordered (suc i) zero d most within holds = absurd (omega (arith, most))
  parted t (row ∷ rows) ordered (suc i) (suc j) d most within holds = parted t rows ordered.1 i j d (omega (arith, most)) (omega (arith, within)) holds

  -- and end at t's place
  pub place-found : (t : ℕ) (rows : List E) (i : ℕ) → i ≤ length rows → IsPartitionPoint (λ row. ltb (by row) t ≡ true) (λ row. ltb (by row) t ≡ false) rows i → i ≡ row_index by t rows
  place-found t [] i few point = omega (arith, few)
  place-found t (row ∷ rows) zero few point = rw (point.1 0 row (omega arith) (omega arith)) refl
  place-found t (row ∷ rows) (suc i) few point =
      rw (point.0 0 row (omega arith) (omega arith))
      (ap (λ n. suc n)
      (place-found t rows i (omega (arith, few))
      (λ k d low high. point.0 (suc k) d (omega (arith, low)) (omega (arith, high)), λ k d low high. point.1 (suc k) d (omega (arith, low)) (omega (arith, high)))))

  -- who has no row in its place isn't listed
  unlisted-later : (t : ℕ) (rows : List E) → AllByRecursion (λ n. t < n) (map by rows) → list_any (λ row. eqb (by row) t) rows ≡ false
  unlisted-later t [] later = refl
  unlisted-later t (row ∷ rows) later = rw (differ_turned (by row) t (not-same t (by row) later.0)) (unlisted-later t rows later.1)

  pub unlisted : (t : ℕ) (rows : List E) → RowsAscend by rows → (IsRowAt by t (row_index by t rows) rows → ⊥) → list_any (λ row. eqb (by row) t) rows ≡ false
  unlisted t [] ordered none = refl
  unlisted t (row ∷ rows) ordered none =
      elim (cases_Bool (ltb (by row) t)) [
        | inl below ↦
            let further = rw below at none in
            rw (not-same (by row) t (ltb-true (by row) t below)) (unlisted t rows ordered.1 (λ here. let within = here.0 in further (omega (arith, within), here.1)))
        | inr past ↦
            let its = rw past at none in
            rw (ne_eqb (by row) t (λ e. its (omega arith, e))) (unlisted-later t rows (earlier-all t (by row) (ltb-false (by row) t past) (map by rows) ordered.0))
      ]

  -- ---- a row is put in its place, or taken out

  -- a write to the place
  pub put_there : (w : E) (rows : List E) → IsRowAt by (by w) (row_index by (by w) rows) rows → set rows (row_index by (by w) rows) w ≡ with_row by w rows
  put_there w [] here = let within = here.0 in absurd (omega (arith, within))
  put_there w (row ∷ rows) here =
      elim (cases_Bool (ltb (by row) (by w))) [
        | inl below ↦
            let lower = ltb-true (by row) (by w) below in
            let further = rw below at here in
            let within = further.0 in
            rw (below, not-same (by row) (by w) lower, not-after (by row) (by w) lower) (ap (λ rest. row ∷ rest) (put_there w rows (omega (arith, within), further.1)))
        | inr past ↦ let its = rw past at here in rw (past, eq-eqb (by row) (by w) its.1) refl
      ]

  -- a row put there, before those of later transactions
  pub put_before : (w : E) (rows : List E) → (IsRowAt by (by w) (row_index by (by w) rows) rows → ⊥) → insert rows (row_index by (by w) rows) w ≡ with_row by w rows
  put_before w [] none = refl
  put_before w (row ∷ rows) none =
      elim (cases_Bool (ltb (by row) (by w))) [
        | inl below ↦
            let lower = ltb-true (by row) (by w) below in
            let further = rw below at none in
            rw (below, not-same (by row) (by w) lower, not-after (by row) (by w) lower)
            (ap (λ rest. row ∷ rest) (put_before w rows (λ here. let within = here.0 in further (omega (arith, within), here.1))))
        | inr past ↦
            let its = rw past at none in
            let differ : by row ≡ by w → ⊥ = λ e. its (omega arith, e) in
            let before : ltb (by w) (by row) ≡ true = lt-ltb (by w) (by row) (smaller (by w) (by row) (ltb-false (by row) (by w) past) (λ e. differ (sym e))) in
            rw (past, ne_eqb (by row) (by w) differ, before) refl
      ]

  -- where all are of later transactions, none is taken out
  stay-later : (t : ℕ) (rows : List E) → AllByRecursion (λ n. t < n) (map by rows) → without_row by t rows ≡ rows
  stay-later t [] later = refl
  stay-later t (row ∷ rows) later = rw (differ_turned (by row) t (not-same t (by row) later.0)) (ap (λ rest. row ∷ rest) (stay-later t rows later.1))

  -- the place taken out
  pub drop_there : (t : ℕ) (rows : List E) → RowsAscend by rows → IsRowAt by t (row_index by t rows) rows → remove rows (row_index by t rows) ≡ without_row by t rows
  drop_there t [] ordered here = let within = here.0 in absurd (omega (arith, within))
  drop_there t (row ∷ rows) ordered here =
      elim (cases_Bool (ltb (by row) t)) [
        | inl below ↦
            let further = rw below at here in
            let within = further.0 in
            rw (below, not-same (by row) t (ltb-true (by row) t below)) (ap (λ rest. row ∷ rest) (drop_there t rows ordered.1 (omega (arith, within), further.1)))
        | inr past ↦
            let its = rw past at here in
            rw (past, eq-eqb (by row) t its.1) (sym (stay-later t rows (earlier-all t (by row) (ltb-false (by row) t past) (map by rows) ordered.0)))
      ]

  -- and none, where it isn't the transaction's
  pub drop_nowhere : (t : ℕ) (rows : List E) → RowsAscend by rows → (IsRowAt by t (row_index by t rows) rows → ⊥) → rows ≡ without_row by t rows
  drop_nowhere t [] ordered none = refl
  drop_nowhere t (row ∷ rows) ordered none =
      elim (cases_Bool (ltb (by row) t)) [
        | inl below ↦
            let further = rw below at none in
            rw (not-same (by row) t (ltb-true (by row) t below))
            (ap (λ rest. row ∷ rest) (drop_nowhere t rows ordered.1 (λ here. let within = here.0 in further (omega (arith, within), here.1))))
        | inr past ↦
            let its = rw past at none in
            rw (ne_eqb (by row) t (λ e. its (omega arith, e)))
            (ap (λ rest. row ∷ rest) (sym (stay-later t rows (earlier-all t (by row) (ltb-false (by row) t past) (map by rows) ordered.0))))
      ]

  -- ---- each row

  -- a fact of each row, with one that is put
  pub each-put : (P : E → Type 0) (w : E) (rows : List E) → P w → AllByRecursion P rows → AllByRecursion P (with_row by w rows)
  each-put P w [] here each = (here, tt)
  each-put P w (row ∷ rows) here each =
      elim (cases_Bool (eqb (by row) (by w))) [
        | inl is ↦ rw is (here, each.1)
        | inr isnt ↦ elim (cases_Bool (ltb (by w) (by row))) [
          | inl before ↦ rw (isnt, before) (here, each)
          | inr behind ↦ rw (isnt, behind) (each.0, each-put P w rows here each.1)
        ]
      ]

  -- ---- in the order of their transactions

  -- who comes before all comes before them with a later one's row put
  before-put : (n : ℕ) (w : E) (rows : List E) → n < by w → AllByRecursion (λ m. n < m) (map by rows) → AllByRecursion (λ m. n < m) (map by (with_row by w rows))
  before-put n w [] below each = (below, tt)
  before-put n w (row ∷ rows) below each =
      elim (cases_Bool (eqb (by row) (by w))) [
        | inl is ↦ rw is (below, each.1)
        | inr isnt ↦ elim (cases_Bool (ltb (by w) (by row))) [
          | inl before ↦ rw (isnt, before) (below, each)
          | inr behind ↦ rw (isnt, behind) (each.0, before-put n w rows below each.1)
        ]
      ]

  -- and with one taken out
  before-dropped : (n : ℕ) (test : E → Bool) (rows : List E) → AllByRecursion (λ m. n < m) (map by rows) → AllByRecursion (λ m. n < m) (map by (filter test rows))
  before-dropped n test [] each = tt
  before-dropped n test (row ∷ rows) each =
      elim (cases_Bool (test row)) [
        | inl is ↦ rw is (each.0, before-dropped n test rows each.1)
        | inr isnt ↦ rw isnt (before-dropped n test rows each.1)
      ]

  pub ordered-put : (w : E) (rows : List E) → RowsAscend by rows → RowsAscend by (with_row by w rows)
  ordered-put w [] ordered = (tt, tt)
  ordered-put w (row ∷ rows) ordered =
      elim (cases_Bool (eqb (by row) (by w))) [
        | inl is ↦ let same : by row ≡ by w = eqb-true (by row) (by w) is in rw is (subst (λ n. AllByRecursion (λ m. n < m) (map by rows)) same ordered.0, ordered.1)
        | inr isnt ↦ elim (cases_Bool (ltb (by w) (by row))) [
          | inl before ↦
              let first = ltb-true (by w) (by row) before in
              rw (isnt, before) ((first, earlier-all (by w) (by row) (omega (arith, first)) (map by rows) ordered.0), ordered)
          | inr behind ↦
              let later = smaller (by row) (by w) (ltb-false (by w) (by row) behind) (eqb-false (by row) (by w) isnt) in
              rw (isnt, behind) (before-put (by row) w rows later ordered.0, ordered-put w rows ordered.1)
        ]
      ]

  pub ordered-dropped : (test : E → Bool) (rows : List E) → RowsAscend by rows → RowsAscend by (filter test rows)
  ordered-dropped test [] ordered = tt
  ordered-dropped test (row ∷ rows) ordered =
      elim (cases_Bool (test row)) [
        | inl is ↦ rw is (before-dropped (by row) test rows ordered.0, ordered-dropped test rows ordered.1)
        | inr isnt ↦ rw isnt (ordered-dropped test rows ordered.1)
      ]

-- ---- what each row shows

module _ {E S : Type 0} (by : E → ℕ) (show : E → S) (none : S) where
  -- where all rows are of later transactions, that of no row
  shown-later : (t : ℕ) (rows : List E) → AllByRecursion (λ n. t < n) (map by rows) → shown_of by show none t rows ≡ none
  shown-later t [] later = refl
  shown-later t (row ∷ rows) later = rw (differ_turned (by row) t (not-same t (by row) later.0)) (shown-later t rows later.1)

  -- in its place is the transaction's, if it has one
  pub shown_there : (t : ℕ) (rows : List E) (d : E) → IsRowAt by t (row_index by t rows) rows → show (get_or rows (row_index by t rows) d) ≡ shown_of by show none t rows
  shown_there t [] d here = let within = here.0 in absurd (omega (arith, within))
  shown_there t (row ∷ rows) d here =
      elim (cases_Bool (ltb (by row) t)) [
        | inl below ↦
            let further = rw below at here in
            let within = further.0 in
            rw (below, not-same (by row) t (ltb-true (by row) t below)) (shown_there t rows d (omega (arith, within), further.1))
        | inr past ↦ let its = rw past at here in rw (past, eq-eqb (by row) t its.1) refl
      ]

  -- else it has none
  pub shown_nowhere : (t : ℕ) (rows : List E) → RowsAscend by rows → (IsRowAt by t (row_index by t rows) rows → ⊥) → shown_of by show none t rows ≡ none
  shown_nowhere t [] ordered nowhere = refl
  shown_nowhere t (row ∷ rows) ordered nowhere =
      elim (cases_Bool (ltb (by row) t)) [
        | inl below ↦
            let further = rw below at nowhere in
            rw (not-same (by row) t (ltb-true (by row) t below)) (shown_nowhere t rows ordered.1 (λ here. let within = here.0 in further (omega (arith, within), here.1)))
        | inr past ↦
            let its = rw past at nowhere in
            rw (ne_eqb (by row) t (λ e. its (omega arith, e))) (shown-later t rows (earlier-all t (by row) (ltb-false (by row) t past) (map by rows) ordered.0))
      ]

  -- with a row put: its transaction's
  pub shown-put : (w : E) (rows : List E) → shown_of by show none (by w) (with_row by w rows) ≡ show w
  shown-put w [] = rw (eq-eqb (by w) (by w) refl) refl
  shown-put w (row ∷ rows) =
      elim (cases_Bool (eqb (by row) (by w))) [
        | inl is ↦ rw (is, eq-eqb (by w) (by w) refl) refl
        | inr isnt ↦ elim (cases_Bool (ltb (by w) (by row))) [
          | inl before ↦ rw (isnt, before, eq-eqb (by w) (by w) refl) refl
          | inr behind ↦ simp (isnt, behind) (shown-put w rows)
        ]
      ]

  -- and another's
  pub shown-put_other : (w : E) (u : ℕ) (rows : List E) → eqb (by w) u ≡ false → shown_of by show none u (with_row by w rows) ≡ shown_of by show none u rows
  shown-put_other w u [] differ = rw differ refl
  shown-put_other w u (row ∷ rows) differ =
      elim (cases_Bool (eqb (by row) (by w))) [
        | inl is ↦
            let same : by row ≡ by w = eqb-true (by row) (by w) is in
            let away : eqb (by row) u ≡ false = rw same differ in
            simp (is, differ, away)
        | inr isnt ↦ elim (cases_Bool (ltb (by w) (by row))) [
          | inl before ↦ rw (isnt, before, differ) refl
          | inr behind ↦ rw (isnt, behind) (ap (λ rest. cond (eqb (by row) u) (show row) rest) (shown-put_other w u rows differ))
        ]
      ]

  -- with a row taken out: its transaction's
  pub shown-dropped : (t : ℕ) (rows : List E) → shown_of by show none t (without_row by t rows) ≡ none
  shown-dropped t [] = refl
  shown-dropped t (row ∷ rows) =
      elim (cases_Bool (eqb (by row) t)) [
        | inl is ↦ rw is (shown-dropped t rows)
        | inr isnt ↦ simp isnt (shown-dropped t rows)
      ]

  -- and another's
  pub shown-dropped_other : (t u : ℕ) (rows : List E) → eqb t u ≡ false → shown_of by show none u (without_row by t rows) ≡ shown_of by show none u rows
  shown-dropped_other t u [] differ = refl
  shown-dropped_other t u (row ∷ rows) differ =
      elim (cases_Bool (eqb (by row) t)) [
        | inl is ↦
            let same : by row ≡ t = eqb-true (by row) t is in
            let away : eqb (by row) u ≡ false = rw same differ in
            simp (is, away) (shown-dropped_other t u rows differ)
        | inr isnt ↦ rw isnt (ap (λ rest. cond (eqb (by row) u) (show row) rest) (shown-dropped_other t u rows differ))
      ]
