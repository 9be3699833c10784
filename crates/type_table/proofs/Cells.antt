-- Conflict tables in words of 64 bits.
use Rattle.std.proofs.Common.{◌≡◌, ℕ, zero, suc, ◌*◌, ◌^◌, ◌%◌, ◌/◌, ◌<◌, ◌≤◌, Bool, true, false, eqb, ◌&&◌, ◌||◌, List, [], ◌∷◌, length, map, take, get_or, set, replicate, bit_and, bit_or, w64, refl, sym, ap, ◌∙◌, inl, inr, arith}
use Rattle.std.specs.Int.{bit_at}
use Rattle.std.proofs.lemmas.Bool.{cases_eq, cases_lt, eq-eqb, ne_eqb, and_from, and_left, and_right}
use Rattle.std.proofs.lemmas.List.{length-replicate, length-map, length-take-le, get_or-map, get_or-take, map-set, ext_get_or, length-set, get_or-set_same, get_or-set_other, take-replicate, get_or-replicate, get_or_past}
use Rattle.std.proofs.Math.Seq.{take-set-lt}
use Rattle.std.proofs.lemmas.List.FromFn.{get_or-map-range_with_len, length-map-range_with_len}
use Rattle.std.proofs.lemmas.Nat.Bits.{bit_at_set_same, bit_at_set_other, bit_at-zero, shr_and_one}
use Rattle.std.proofs.Math.Bool.{or-false}
use Rattle.type_table.specs.ConflictTable.{conflict_row, conflicts, IsSquare, cells_of, conflict_rows}

-- the table with no pair
abbrev no_pairs : ℕ → List (List Bool)
no_pairs ops = replicate ops (replicate ops false)

-- the table with one more pair
abbrev with_pair : List (List Bool) → ℕ → ℕ → List (List Bool)
with_pair rows p q = set rows p (set (conflict_row rows p) q true)

pub length-rows_of : (ops : ℕ) (words : List ℕ) → ops ≤ length words → length (conflict_rows ops words) ≡ ops
length-rows_of ops words fits = length-map (take ops words) (cells_of ops) ∙ length-take-le ops words fits

pub row-rows_of : (ops p : ℕ) (words : List ℕ) → p < ops → ops ≤ length words → conflict_row (conflict_rows ops words) p ≡ cells_of ops (get_or words p 0)
row-rows_of ops p words below fits =
    get_or-map (cells_of ops) (take ops words) p 0 _ (rw (length-take-le ops words fits) below) ∙ ap (cells_of ops) (get_or-take ops words p 0 below)

-- a cell is a bit
pub conflicts-rows_of : (ops p q : ℕ) (words : List ℕ) → p < ops → q < ops → ops ≤ length words → conflicts (conflict_rows ops words) p q ≡ eqb (bit_at (get_or words p 0) q) 1
conflicts-rows_of ops p q words p_below q_below fits =
    rw (row-rows_of ops p words p_below fits) (get_or-map-range_with_len (λ i. eqb (bit_at (get_or words p 0) i) 1) 0 ops q q false q_below (omega arith))

map-replicate : {A B : Type 0} (f : A → B) (n : ℕ) (x : A) → map f (replicate n x) ≡ replicate n (f x)
map-replicate f zero x = refl
map-replicate f (suc n) x = ap (λ rest. f x ∷ rest) (map-replicate f n x)

cells_of-zero : (ops : ℕ) → cells_of ops 0 ≡ replicate ops false
cells_of-zero ops =
    let len = length-map-range_with_len (λ q. eqb (bit_at 0 q) 1) 0 ops in
    ext_get_or false (cells_of ops 0) (replicate ops false) (len ∙ sym (length-replicate {A = Bool} ops false))
    (λ q below. let q_below : q < ops = rw len at below in
    get_or-map-range_with_len (λ i. eqb (bit_at 0 i) 1) 0 ops q q false q_below (omega arith) ∙ ap (λ b. eqb b 1) (bit_at-zero q) ∙ sym (get_or-replicate ops q false false q_below))

-- words of zeros have no pair
pub rows_of-zeros : (n ops : ℕ) (words : List ℕ) → words ≡ replicate n 0 → ops ≤ n → conflict_rows ops words ≡ no_pairs ops
rows_of-zeros n ops words e fits = rw (e, take-replicate {X = ℕ} ops n 0 fits) (map-replicate (cells_of ops) ops 0 ∙ ap (λ row. replicate ops row) (cells_of-zero ops))

-- a word with one more bit
pub cells_of-set : (ops q word : ℕ) → ops ≤ 64 → q < ops → cells_of ops (bit_or word (1 * 2 ^ q % 2 ^ 64)) ≡ set (cells_of ops word) q true
cells_of-set ops q word fits below =
    let more : ℕ = bit_or word (1 * 2 ^ q % 2 ^ 64) in
    let len = length-map-range_with_len (λ i. eqb (bit_at more i) 1) 0 ops in
    let old_len = length-map-range_with_len (λ i. eqb (bit_at word i) 1) 0 ops in
    ext_get_or false (cells_of ops more) (set (cells_of ops word) q true) (len ∙ sym old_len ∙ sym (length-set (cells_of ops word) q true))
    (λ i i_in. let i_below : i < ops = rw len at i_in in
    let q_in : q < length (cells_of ops word) = rw old_len below in
    let is = get_or-map-range_with_len (λ j. eqb (bit_at more j) 1) 0 ops i i false i_below (omega arith) in
    elim (cases_eq i q) [
      | inl e ↦ is ∙ ap (λ b. eqb b 1) (ap (bit_at more) e ∙ bit_at_set_same w64 word q (omega arith)) ∙ sym (ap (λ j. get_or (set (cells_of ops word) q true) j false) e ∙ get_or-set_same (cells_of ops word) q true false q_in)
      | inr ne ↦ is ∙ ap (λ b. eqb b 1) (bit_at_set_other w64 word q (omega arith) i ne) ∙ sym (get_or-set_other (cells_of ops word) q i true false ne ∙ get_or-map-range_with_len (λ j. eqb (bit_at word j) 1) 0 ops i i false i_below (omega arith))
    ])

-- a table with one more bit
pub rows_of-set : (ops p q : ℕ) (words : List ℕ) → ops ≤ 64 → ops ≤ length words → p < ops → q < ops →
    conflict_rows ops (set words p (bit_or (get_or words p 0) (1 * 2 ^ q % 2 ^ 64))) ≡ with_pair (conflict_rows ops words) p q
rows_of-set ops p q words small fits p_below q_below =
    let word : ℕ = get_or words p 0 in
    let more : ℕ = bit_or word (1 * 2 ^ q % 2 ^ 64) in
    ap (map (cells_of ops)) (take-set-lt ops words p more p_below) ∙ map-set (cells_of ops) (take ops words) p more
    ∙ ap (set (conflict_rows ops words) p) (cells_of-set ops q word small q_below ∙ ap (λ cells. set cells q true) (sym (row-rows_of ops p words p_below fits)))

-- what the calls of a conflict table say of the rows that its words show

-- the word of a row
pub word-conflicts : (ops p : ℕ) (words : List ℕ) (rows : List (List Bool)) → conflict_rows ops words ≡ rows → ops ≤ length words → p < length rows → (q : ℕ) → q < length rows →
    eqb (bit_at (get_or words p 0) q) 1 ≡ conflicts rows p q
word-conflicts ops p words rows e fits p_in q q_in =
    let len_rows : length rows ≡ ops = ap length (sym e) ∙ length-rows_of ops words fits in
    sym (conflicts-rows_of ops p q words (rw len_rows at p_in) (rw len_rows at q_in) fits) ∙ ap (λ shown. conflicts shown p q) e

-- and one bit of it
pub bit-conflicts : (ops p q : ℕ) (words : List ℕ) (rows : List (List Bool)) → conflict_rows ops words ≡ rows → ops ≤ length words → p < length rows → q < length rows →
    eqb (bit_and (get_or words p 0 / 2 ^ q) 1) 1 ≡ conflicts rows p q
bit-conflicts ops p q words rows e fits p_in q_in = ap (λ b. eqb b 1) (shr_and_one (get_or words p 0) q) ∙ word-conflicts ops p words rows e fits p_in q q_in

-- the rows that words show are square
pub square-rows_of : (ops : ℕ) (words : List ℕ) → ops ≤ length words → IsSquare ops (conflict_rows ops words)
square-rows_of ops words fits = record {
  height = length-rows_of ops words fits;
  width = λ p below. ap length (row-rows_of ops p words below fits) ∙ length-map-range_with_len (λ q. eqb (bit_at (get_or words p 0) q) 1) 0 ops;
}

-- and so after a write
pub square-set : (ops p word : ℕ) (words : List ℕ) (rows : List (List Bool)) → conflict_rows ops words ≡ rows → ops ≤ length words → IsSquare (length rows) (conflict_rows ops (set words p word))
square-set ops p word words rows e fits =
    let len_rows : length rows ≡ ops = ap length (sym e) ∙ length-rows_of ops words fits in
    rw len_rows (square-rows_of ops (set words p word) (omega (arith, fits, length-set words p word)))

cell-replicate : (n q : ℕ) → get_or (replicate n false) q false ≡ false
cell-replicate n q =
    elim (cases_lt q n) [
      | inl below ↦ get_or-replicate n q false false below
      | inr past ↦ get_or_past (replicate n false) q false (omega (arith, length-replicate {A = Bool} n false))
    ]

-- no word has a bit
pub no_conflicts : (n ops : ℕ) (words : List ℕ) → words ≡ replicate n 0 → ops ≤ n → (p q : ℕ) → conflicts (conflict_rows ops words) p q ≡ false
no_conflicts n ops words e fits p q =
    ap (λ rows. conflicts rows p q) (rows_of-zeros n ops words e fits)
    ∙ elim (cases_lt p ops) [
      | inl below ↦ ap (λ cells. get_or cells q false) (get_or-replicate ops p (replicate ops false) [] below) ∙ cell-replicate ops q
      | inr past ↦ ap (λ cells. get_or cells q false) (get_or_past (replicate ops (replicate ops false)) p [] (omega (arith, length-replicate {A = List Bool} ops (replicate ops false)))) ∙ get_or_past [] q false (omega arith)
    ]

or_true : (b : Bool) → true ≡ (b || true)
or_true true = refl
or_true false = refl

-- a pair is added, and no other
pub conflicts-with_pair : (ops p q a b : ℕ) (rows : List (List Bool)) → IsSquare ops rows → p < ops → q < ops →
    conflicts (with_pair rows p q) a b ≡ (conflicts rows a b || (eqb a p && eqb b q))
conflicts-with_pair ops p q a b rows square p_in q_in =
    elim (cases_eq a p) [
      | inl same ↦ elim (cases_eq b q) [
        | inl here ↦
            rw (same, here)
            (ap (λ cells. get_or cells q false) (get_or-set_same rows p (set (conflict_row rows p) q true) [] (omega (arith, p_in, square.height)))
            ∙ get_or-set_same (conflict_row rows p) q true false (omega (arith, q_in, square.width p p_in)) ∙ or_true (conflicts rows p q) ∙ ap (λ x. conflicts rows p q || x) (sym (and_from _ _ (eq-eqb p p refl) (eq-eqb q q refl))))
        | inr other ↦
            rw same
            (ap (λ cells. get_or cells b false) (get_or-set_same rows p (set (conflict_row rows p) q true) [] (omega (arith, p_in, square.height)))
            ∙ get_or-set_other (conflict_row rows p) q b true false other ∙ sym (or-false (conflicts rows p b)) ∙ ap (λ x. conflicts rows p b || x) (sym (and_right _ _ (ne_eqb b q other))))
      ]
      | inr other ↦
          ap (λ cells. get_or cells b false) (get_or-set_other rows p a (set (conflict_row rows p) q true) [] other)
          ∙ sym (or-false (conflicts rows a b)) ∙ ap (λ x. conflicts rows a b || x) (sym (and_left _ _ (ne_eqb a p other)))
    ]

pub bit-with_pair : (ops p q : ℕ) (words : List ℕ) (rows : List (List Bool)) → conflict_rows ops words ≡ rows → ops ≤ 64 → ops ≤ length words → p < length rows → q < length rows →
    conflict_rows ops (set words p (bit_or (get_or words p 0) (1 * 2 ^ q % 2 ^ 64))) ≡ with_pair rows p q
bit-with_pair ops p q words rows e small fits p_in q_in =
    let len_rows : length rows ≡ ops = ap length (sym e) ∙ length-rows_of ops words fits in
    rows_of-set ops p q words small fits (rw len_rows at p_in) (rw len_rows at q_in) ∙ ap (λ shown. with_pair shown p q) e

-- what setting the bit says of the pairs
pub bit-pairs : (ops p q : ℕ) (words : List ℕ) (rows : List (List Bool)) → conflict_rows ops words ≡ rows → ops ≤ 64 → ops ≤ length words → p < length rows → q < length rows → (a b : ℕ) →
    conflicts (conflict_rows ops (set words p (bit_or (get_or words p 0) (1 * 2 ^ q % 2 ^ 64)))) a b ≡ (conflicts rows a b || (eqb a p && eqb b q))
bit-pairs ops p q words rows e small fits p_in q_in a b =
    let len_rows : length rows ≡ ops = ap length (sym e) ∙ length-rows_of ops words fits in
    let square : IsSquare ops rows = rw e at (square-rows_of ops words fits) in
    ap (λ shown. conflicts shown a b) (bit-with_pair ops p q words rows e small fits p_in q_in)
    ∙ conflicts-with_pair ops p q a b rows square (rw len_rows at p_in) (rw len_rows at q_in)
