-- A row is put at a rowid, or freed: what is found at each rowid, by each number and at each place.
use Rattle.std.proofs.Common.{◌≡◌, ℕ, ◌+◌, ◌<◌, List, slice_get, Option, Some, None, false, true, refl, sym, ap, ◌∙◌, Bool, nat_lt, if◌then◌else◌}
use Rattle.std.specs.Prelude.{pos, negsuc, option_map, unwrap_or}
use Rattle.std.proofs.lemmas.Bool.{lt-ltb, ltb-true}
use Rattle.sqlite_value.specs.declared.value.Value.TheVariants.{Int}
use Rattle.sqlite_value.specs.Order.{Row, column, value_cmp}
use Rattle.std.specs.Ordering.{is_eq}
use Rattle.sqlite_trees.specs.Tree.{put_row, rowid, without_rowid}
use Rattle.sqlite_trees.specs.Objects.{number_in}
use Rattle.sqlite_trees.specs.View.{Finds}
use Rattle.journal.specs.declared.numbers.Numbers.{Numbers}
use Rattle.journal.specs.declared.outcome_row.KeptOutcome.{KeptOutcome}
use Rattle.journal.specs.declared.outcome_row.KeyedOutcome.{KeyedOutcome}
use Rattle.journal.specs.declared.place_row.PlaceRow.{PlaceRow}
use Rattle.journal.specs.declared.place_row.PlaceRow.TheVariants.{Pointer, Whole}
use Rattle.journal.specs.Numbers.{first_numbers, numbers_in, numbers_row, numbers_told}
use Rattle.journal.specs.OutcomeRow.{key_column, number_column, outcome_read_back, outcome_row, outcome_told}
use Rattle.journal.specs.PlaceRow.{is_null, place_told, pointer_row}
use Rattle.journal.specs.Swept.{place_number}
use Rattle.journal.specs.OutcomeIndex.{outcome_numbered, numbered_from, numbered_told, placed, row_at}
use Rattle.journal.proofs.PutRows.{freed-other, freed-own, nowhere-itself, nowhere-place, place-itself, place-nowhere, pos-apart, put-other, put-own}

-- ---- a row is looked for

pub row-there : (rows : List Row) (id : ℕ) (row : Row) (found : Bool) → found ≡ true → Finds rows (pos id) row found → row_at rows id ≡ Some row
unfolding row_at
row-there rows id row true there finds = ap (λ rs. slice_get rs 0) finds
row-there rows id row false there finds = absurd (cc)

pub no-row-there : (rows : List Row) (id : ℕ) (row : Row) (found : Bool) → found ≡ false → Finds rows (pos id) row found → row_at rows id ≡ None
unfolding row_at
no-row-there rows id row true none finds = absurd (cc)
no-row-there rows id row false none finds = ap (λ rs. slice_get rs 0) finds

-- and that of the numbers
pub none-nowhere : (rows : List Row) (row : Row) (found : Bool) → found ≡ false → Finds rows (negsuc 0) row found → first_numbers ≡ numbers_in rows
unfolding numbers_in
none-nowhere rows row true none finds = absurd (cc)
none-nowhere rows row false none finds = ap (λ rs. unwrap_or (option_map numbers_told (slice_get rs 0)) first_numbers) (sym finds)

pub one-nowhere : (rows : List Row) (row : Row) (found : Bool) (m : Numbers) → found ≡ true → Finds rows (negsuc 0) row found → numbers_told row ≡ m → m ≡ numbers_in rows
unfolding numbers_in
one-nowhere rows row true m there finds is = sym (ap (λ rs. unwrap_or (option_map numbers_told (slice_get rs 0)) first_numbers) finds ∙ is)
one-nowhere rows row false m there finds is = absurd (cc)

-- ---- rows change at one rowid

pub record ChangesAt (old new : List Row) (id : ℕ) : Type 0 where
  pub others : (k : ℕ) → (k ≡ id → ⊥) → row_at new k ≡ row_at old k
  pub numbers : numbers_in new ≡ numbers_in old

pub put-changes : (rows : List Row) (id : ℕ) (new : Row) → rowid new ≡ Int (pos id) → ChangesAt rows (put_row new rows) id
unfolding row_at numbers_in
put-changes rows id new key = record {
  others = λ k differs. ap (λ rs. slice_get rs 0) (put-other (pos id) new key (pos k) (ap (λ v. is_eq (value_cmp v (Int (pos k)))) key ∙ pos-apart id k differs) rows);
  numbers = ap (λ rs. unwrap_or (option_map numbers_told (slice_get rs 0)) first_numbers) (put-other (pos id) new key (negsuc 0) (ap (λ v. is_eq (value_cmp v (Int (negsuc 0)))) key ∙ place-nowhere id) rows);
}

pub put-there : (rows : List Row) (id : ℕ) (new : Row) → rowid new ≡ Int (pos id) → row_at (put_row new rows) id ≡ Some new
unfolding row_at
put-there rows id new key = put-own (pos id) new key (ap (λ v. is_eq (value_cmp v (Int (pos id)))) key ∙ place-itself id) rows

pub freed-changes : (rows : List Row) (id : ℕ) → ChangesAt rows (without_rowid (pos id) rows) id
unfolding row_at numbers_in
freed-changes rows id = record {
  others = λ k differs. ap (λ rs. slice_get rs 0) (freed-other (pos id) (pos k) (pos-apart k id (λ is. differs (sym is))) rows);
  numbers = ap (λ rs. unwrap_or (option_map numbers_told (slice_get rs 0)) first_numbers) (freed-other (pos id) (negsuc 0) (nowhere-place id) rows);
}

pub freed-none : (rows : List Row) (id : ℕ) → row_at (without_rowid (pos id) rows) id ≡ None
unfolding row_at
freed-none rows id = ap (λ rs. slice_get rs 0) (freed-own (pos id) rows)

-- the numbers are written anew, and no other row
pub renumbered-rows : (rows : List Row) (m : Numbers) (k : ℕ) → row_at (put_row (numbers_row m) rows) k ≡ row_at rows k
unfolding row_at
renumbered-rows rows m k = ap (λ rs. slice_get rs 0) (put-other (negsuc 0) (numbers_row m) refl (pos k) (nowhere-place k) rows)

pub numbers-there : (rows : List Row) (m : Numbers) → numbers_in (put_row (numbers_row m) rows) ≡ m
unfolding numbers_in
numbers-there rows m = ap (λ found. unwrap_or (option_map numbers_told found) first_numbers) (put-own (negsuc 0) (numbers_row m) refl nowhere-itself rows)

-- ---- outcomes by their numbers, and places

pub numbered-as : (old new : List Row) (n : ℕ) → row_at new (numbered_from + n) ≡ row_at old (numbered_from + n) → outcome_numbered new n ≡ outcome_numbered old n
unfolding outcome_numbered
numbered-as old new n same = ap (option_map (numbered_told n)) same

pub placed-as : (old new : List Row) (p : ℕ) → (p < numbered_from → row_at new p ≡ row_at old p) → placed new p ≡ placed old p
unfolding placed
placed-as old new p same = by (nat_lt p numbered_from) refl
  where
    by : (b : Bool) → nat_lt p numbered_from ≡ b → (if b then option_map place_told (row_at new p) else None) ≡ (if b then option_map place_told (row_at old p) else None)
    by true low = ap (option_map place_told) (same (ltb-true p numbered_from low))
    by false low = refl

pub renumbered-numbered : (rows : List Row) (m : Numbers) (n : ℕ) → outcome_numbered (put_row (numbers_row m) rows) n ≡ outcome_numbered rows n
renumbered-numbered rows m n = numbered-as rows (put_row (numbers_row m) rows) n (renumbered-rows rows m (numbered_from + n))

pub renumbered-placed : (rows : List Row) (m : Numbers) (p : ℕ) → placed (put_row (numbers_row m) rows) p ≡ placed rows p
renumbered-placed rows m p = placed-as rows (put_row (numbers_row m) rows) p (λ low. renumbered-rows rows m p)

-- a place is below all rows of numbers
pub place-low : (rows : List Row) (p : ℕ) (it : PlaceRow) → placed rows p ≡ Some it → p < numbered_from
unfolding placed
place-low rows p it there = by (nat_lt p numbered_from) refl there
  where
    by : (b : Bool) → nat_lt p numbered_from ≡ b → (if b then option_map place_told (row_at rows p) else None) ≡ Some it → p < numbered_from
    by true low is = ltb-true p numbered_from low
    by false low is = absurd (cc)

-- one that is there has its number
pub numbered-number : (rows : List Row) (n : ℕ) (o : KeptOutcome) → outcome_numbered rows n ≡ Some o → o.number ≡ n
unfolding outcome_numbered
numbered-number rows n o is = by (row_at rows (numbered_from + n)) is
  where
    by : (row : Option Row) → option_map (numbered_told n) row ≡ Some o → o.number ≡ n
    by None is = absurd (cc)
    by (Some row) is = ap (λ (k : KeptOutcome). k.number) (same (numbered_told n row) is)
      where
        same : (k : KeptOutcome) → Some k ≡ Some o → o ≡ k
        same k is = cc

pub numbered-there : (rows : List Row) (n : ℕ) (row : Row) (o : KeptOutcome) → row_at rows (numbered_from + n) ≡ Some row → outcome_told row ≡ o → o.number ≡ n → Some o ≡ outcome_numbered rows n
unfolding outcome_numbered
numbered-there rows n row o there told number =
    let same : o ≡ numbered_told n row = ap (λ k. let it : KeptOutcome = record { kept = o.kept; number = k } in it) number ∙ ap (λ (k : KeptOutcome). let it : KeptOutcome = record { kept = k.kept; number = n } in it) (sym told) in
    ap Some same ∙ ap (option_map (numbered_told n)) (sym there)

pub numbered-none : (rows : List Row) (n : ℕ) → row_at rows (numbered_from + n) ≡ None → None ≡ outcome_numbered rows n
unfolding outcome_numbered
numbered-none rows n none = ap (option_map (numbered_told n)) (sym none)

pub placed-there : (rows : List Row) (p : ℕ) (row : Row) → p < numbered_from → row_at rows p ≡ Some row → placed rows p ≡ Some (place_told row)
unfolding placed
placed-there rows p row low there = rw (lt-ltb p numbered_from low, there) refl

pub placed-none : (rows : List Row) (p : ℕ) → row_at rows p ≡ None → placed rows p ≡ None
unfolding placed
placed-none rows p none = rw none (by (nat_lt p numbered_from))
  where
    by : (b : Bool) → (if b then option_map place_told None else None) ≡ None
    by true = refl
    by false = refl

-- the number that a row at a place says, be it the outcome or a pointer
told-number : (row : Row) → place_number (place_told row) ≡ number_in (column row number_column)
told-number row = by (is_null (column row key_column))
  where
    by : (b : Bool) → place_number (if b then Pointer (number_in (column row number_column)) else Whole (outcome_told row)) ≡ number_in (column row number_column)
    by true = refl
    by false = refl

pub number-there : (rows : List Row) (p n : ℕ) (row : Row) → p < numbered_from → row_at rows p ≡ Some row → number_in (column row number_column) ≡ n → Some n ≡ option_map place_number (placed rows p)
number-there rows p n row low there is = sym (ap (option_map place_number) (placed-there rows p row low there) ∙ ap Some (told-number row ∙ is))

pub no-number-there : (rows : List Row) (p : ℕ) → row_at rows p ≡ None → None ≡ option_map place_number (placed rows p)
no-number-there rows p none = ap (option_map place_number) (sym (placed-none rows p none))

-- and where it says one it is there
pub some-number : (it : Option PlaceRow) (n : ℕ) → Some n ≡ option_map place_number it → (gone : PlaceRow) × (it ≡ Some gone) × (place_number gone ≡ n)
some-number None n is = absurd (cc)
some-number (Some gone) n is = (gone, refl, cc)

-- an outcome is put
pub outcome-there : (rows : List Row) (n : ℕ) (o : KeyedOutcome) → outcome_numbered (put_row (outcome_row (numbered_from + n) (record { kept = o; number = n })) rows) n ≡ Some (record { kept = o; number = n })
outcome-there rows n o =
    let its : KeptOutcome = record { kept = o; number = n } in
    sym (numbered-there (put_row (outcome_row (numbered_from + n) its) rows) n (outcome_row (numbered_from + n) its) its
    (put-there rows (numbered_from + n) (outcome_row (numbered_from + n) its) refl) (outcome_read_back (numbered_from + n) its) refl)

-- a pointer is put
pub pointer-there : (rows : List Row) (p n : ℕ) → p < numbered_from → placed (put_row (pointer_row p n) rows) p ≡ Some (Pointer n)
pointer-there rows p n low = placed-there (put_row (pointer_row p n) rows) p (pointer_row p n) low (put-there rows p (pointer_row p n) refl)
