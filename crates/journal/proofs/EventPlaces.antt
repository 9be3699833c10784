-- Where the events of rows stand among all.
use Rattle.std.proofs.Common.{◌≡◌, refl, sym, ap, ℕ, zero, suc, ◌+◌, ◌-◌, ◌<◌, ◌≤◌, List, [], ◌∷◌, ◌++◌, append-nil, drop, get_or, length, length-append, take, inl, inr, arith, ◌∙◌}
use Rattle.std.proofs.lemmas.Bool.{cases_lt}
use Rattle.std.proofs.lemmas.Grind.{flat_map-append}
use Rattle.std.proofs.lemmas.List.{drop_all, length-drop, take-append-drop, take_all}
use Rattle.journal.specs.declared.event_row.EventRow.{EventRow}
use Rattle.journal.specs.declared.row_places.RowPlaces.{RowPlaces}
use Rattle.journal.specs.EventRow.{events_in_row, events_in_rows, row_starts}
use Rattle.journal.specs.RowPlaces.{AreBefore, HaveEvents}

pub length-starts : (n : ℕ) (rows : List EventRow) → length (row_starts n rows) ≡ length rows
length-starts n [] = refl
length-starts n (row ∷ rows) = ap suc (length-starts (n + length (events_in_row row)) rows)

-- the events of a row begin behind those of the rows before it
pub start-at : (n : ℕ) (rows : List EventRow) (i : ℕ) → i < length rows → get_or (row_starts n rows) i 0 ≡ n + length (events_in_rows (take i rows))
start-at n [] i low = absurd (omega (arith, low))
start-at n (row ∷ rows) zero low = omega arith
start-at n (row ∷ rows) (suc i) low =
    start-at (n + length (events_in_row row)) rows i (omega (arith, low)) ∙ omega (arith, length-append (events_in_row row) (events_in_rows (take i rows)))

-- a row more
pub starts-more : (n : ℕ) (rows : List EventRow) (row : EventRow) → row_starts n (rows ++ row ∷ []) ≡ row_starts n rows ++ (n + length (events_in_rows rows)) ∷ []
starts-more n [] row = ap (λ m. m ∷ []) (omega arith)
starts-more n (first ∷ rows) row =
    ap (λ more. n ∷ more)
    (starts-more (n + length (events_in_row first)) rows row
    ∙ ap (λ m. row_starts (n + length (events_in_row first)) rows ++ m ∷ []) (omega (arith, length-append (events_in_row first) (events_in_rows rows))))

pub events-more : (rows : List EventRow) (row : EventRow) → events_in_rows (rows ++ row ∷ []) ≡ events_in_rows rows ++ events_in_row row
events-more rows row = flat_map-append events_in_row rows (row ∷ []) ∙ ap (λ more. events_in_rows rows ++ more) (append-nil (events_in_row row))

-- what is dropped of two lists, where the first one is dropped wholly
drop-front : {X : Type 0} (from : ℕ) (xs ys : List X) → length xs ≤ from → drop from (xs ++ ys) ≡ drop (from - length xs) ys
drop-front from [] ys long =
    let same : from ≡ from - 0 = omega arith in
    ap (λ n. drop n ys) same
drop-front zero (x ∷ xs) ys long = absurd (omega (arith, long))
drop-front (suc from) (x ∷ xs) ys long =
    let same : from - length xs ≡ suc from - suc (length xs) = omega arith in
    drop-front from xs ys (omega (arith, long)) ∙ ap (λ n. drop n ys) same

-- what is taken of two lists, where the first one has it
take-front : {X : Type 0} (count : ℕ) (xs ys : List X) → count ≤ length xs → take count (xs ++ ys) ≡ take count xs
take-front zero xs ys long = refl
take-front (suc count) [] ys long = absurd (omega (arith, long))
take-front (suc count) (x ∷ xs) ys long = ap (λ more. x ∷ more) (take-front count xs ys (omega (arith, long)))

-- what is taken at once, and in two parts
take-both : {X : Type 0} (a b : ℕ) (xs : List X) → take (a + b) xs ≡ take a xs ++ take b (drop a xs)
take-both zero b xs =
    let same : 0 + b ≡ b = omega arith in
    ap (λ n. take n xs) same
take-both (suc a) b [] = take_all (suc a + b) [] (omega arith) ∙ sym (take_all b [] (omega arith))
take-both (suc a) b (x ∷ xs) =
    let same : suc a + b ≡ suc (a + b) = omega arith in
    ap (λ n. take n (x ∷ xs)) same ∙ ap (λ more. x ∷ more) (take-both a b xs)

some-front : {X : Type 0} (from count : ℕ) (xs ys : List X) → from + count ≤ length xs → take count (drop from (xs ++ ys)) ≡ take count (drop from xs)
some-front zero count xs ys long = take-front count xs ys (omega (arith, long))
some-front (suc from) count [] ys long = absurd (omega (arith, long))
some-front (suc from) count (x ∷ xs) ys long = some-front from count xs ys (omega (arith, long))

module _ (rows : List EventRow) (from count : ℕ) where
  module _ (places : RowPlaces) (have : HaveEvents (row_starts 0 rows) from count places) where
    abbrev front : List EventRow
    front = take places.first rows

    abbrev middle : List EventRow
    middle = take places.count (drop places.first rows)

    abbrev back : List EventRow
    back = drop places.count (drop places.first rows)

    low : places.first < length rows
    low = omega (arith, have.there, length-starts 0 rows)

    start : places.start ≡ length (events_in_rows front)
    start = omega (arith, have.start, start-at 0 rows places.first low)

    all : events_in_rows rows ≡ events_in_rows front ++ (events_in_rows middle ++ events_in_rows back)
    all =
        ap events_in_rows (sym (take-append-drop places.first rows))
        ∙ flat_map-append events_in_row front (drop places.first rows)
        ∙ ap (λ more. events_in_rows front ++ more) (ap events_in_rows (sym (take-append-drop places.count (drop places.first rows))) ∙ flat_map-append events_in_row middle back)

    -- the rows up to the one behind them
    both : take (places.first + places.count) rows ≡ front ++ middle
    both = take-both places.first places.count rows

    enough : places.first + places.count < length rows → (from - places.start) + count ≤ length (events_in_rows middle)
    enough more =
        let end = have.past (omega (arith, more, length-starts 0 rows)) in
        let is = start-at 0 rows (places.first + places.count) more in
        let parts = ap (λ rs. length (events_in_rows rs)) both ∙ ap length (flat_map-append events_in_row front middle) ∙ length-append (events_in_rows front) (events_in_rows middle) in
        omega (arith, end, is, parts, start, have.before)

    none-behind : length rows ≤ places.first + places.count → back ≡ []
    none-behind past = drop_all places.count (drop places.first rows) (omega (arith, past, length-drop places.first rows))

    of-middle : take count (drop (from - places.start) (events_in_rows middle ++ events_in_rows back)) ≡ take count (drop (from - places.start) (events_in_rows middle))
    of-middle = elim (cases_lt (places.first + places.count) (length rows)) [
      | inl more ↦ some-front (from - places.start) count (events_in_rows middle) (events_in_rows back) (enough more)
      | inr past ↦ ap (λ rs. take count (drop (from - places.start) (events_in_rows middle ++ events_in_rows rs))) (none-behind past) ∙ ap (λ es. take count (drop (from - places.start) es)) (append-nil (events_in_rows middle))
    ]

    pub some-events : take count (drop (from - places.start) (events_in_rows middle)) ≡ take count (drop from (events_in_rows rows))
    some-events =
        sym (ap (λ es. take count (drop from es)) all
        ∙ ap (take count) (drop-front from (events_in_rows front) (events_in_rows middle ++ events_in_rows back) (omega (arith, start, have.before)))
        ∙ ap (λ n. take count (drop (from - n) (events_in_rows middle ++ events_in_rows back))) (sym start)
        ∙ of-middle)

-- where there is no such row there are no such events
pub no-events : (rows : List EventRow) (from count : ℕ) → AreBefore (row_starts 0 rows) from count → take count (drop from (events_in_rows rows)) ≡ []
no-events [] from count before = nothing from count
  where
    nothing : (from count : ℕ) → take count (drop from (events_in_rows [])) ≡ []
    nothing zero zero = refl
    nothing zero (suc count) = refl
    nothing (suc from) zero = refl
    nothing (suc from) (suc count) = refl
no-events (row ∷ rows) from count before = elim before [
  | inl none ↦ ap (λ n. take n (drop from (events_in_rows (row ∷ rows)))) none
  | inr (inl empty) ↦ absurd (omega (arith, empty))
  | inr (inr behind) ↦ absurd (omega (arith, behind))
]
