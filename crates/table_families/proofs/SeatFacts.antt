-- Seats have tables.
use Rattle.std.proofs.Common.{◌≡◌, ℕ, zero, suc, ◌+◌, ◌*◌, ◌-◌, ◌/◌, ◌%◌, ◌^◌, ◌<◌, ◌≤◌, ◌↔◌, Bool, true, false, cond, not, leb, ltb, eqb, codes, List, [], ◌∷◌, ◌++◌, length, map, get_or, Some, inl, inr, refl, sym, ◌∙◌, arith, map-id, length-append}
use Rattle.std.specs.Bool.{IsTrue}
use Rattle.std.specs.Fmt.{decimal}
use Rattle.std.specs.List.{flat_map, range_with_len}
use Rattle.std.specs.Str.{bytes_eq}
use Rattle.std.proofs.Math.Nat.{pow-le-pow_right}
use Rattle.std.proofs.lemmas.Bool.{cases_lt, le-leb, leb-true, ltb-true}
use Rattle.std.proofs.lemmas.Fmt.{decimal_injective}
use Rattle.std.proofs.lemmas.List.{flat_map_more}
use Rattle.std.proofs.lemmas.List.Concat.{flat_map_single}
use Rattle.std.proofs.lemmas.List.FromFn.{length-range_with_len, get_or-range_with_len, length-map-range_with_len, map-range_with_len_more}
use Rattle.std.proofs.lemmas.List.Sums.{sum_by_push}
use Rattle.type_table.specs.Op.{has_twin}
use Rattle.table_maker.specs.Made.{HasTable, where_legal}
use Rattle.table_families.proofs.AmountFacts.{legal-Some}
use Rattle.table_families.proofs.Replies.{replies-once}
use Rattle.table_families.proofs.Twins.{shares, has_twin-append, has_twin-flat_map, shares-flat_map, flat_map-shares, length-pieces, same_bytes, other_bytes}
use Rattle.table_families.specs.Seats.{seats, seat_ops, free_op, seat_step, is_seat, with_seat, free_of, AreSeats, SeatsFit}
use Rattle.table_families.specs.declared.seats.Seat.{Seat}
use Rattle.table_families.specs.declared.seats.Seat.TheVariants.{Free, Held, Booked}
use Rattle.table_families.proofs.Threes.{changed}

-- at most six seats fit
pub fit-iff : (n : ℕ) → IsTrue (leb n 6) ↔ SeatsFit n
fit-iff n = (
  λ h. let few : n ≤ 6 = leb-true n 6 h in let least : 3 ^ n ≤ 3 ^ 6 = pow-le-pow_right {n = 3} (omega arith) {i = n} {j = 6} few in record { ops = omega arith; states = omega (arith, least) },
  λ fits. le-leb n 6 (elim (cases_lt 6 n) [
    | inl many ↦ let least : 3 ^ 7 ≤ 3 ^ n = pow-le-pow_right {n = 3} (omega arith) {i = 7} {j = n} many in absurd (omega (arith, fits.states, least))
    | inr few ↦ few
  ]),
)

pub few-seats : (n : ℕ) → SeatsFit n → n ≤ 6
few-seats n fits = leb-true n 6 ((fit-iff n).1 fits)

-- five operations for each seat, and one for each number of free seats
pub length-seats : (n : ℕ) → length (seats n).ops ≡ 5 * n + (n + 1)
length-seats n =
    let parts = length-append (flat_map seat_ops (range_with_len 1 n)) (map free_op (range_with_len 0 (n + 1))) in
    omega (arith, parts, length-pieces seat_ops 5 (range_with_len 1 n) (λ i. refl), length-range_with_len 1 n, length-map-range_with_len free_op 0 (n + 1))

-- the operations of a seat differ
seat-once : (i : ℕ) → has_twin (seat_ops i) ≡ false
seat-once i = rw (same_bytes (decimal i)) refl

-- operations of different seats differ
seats-differ : (a b : ℕ) → a < b → b < 2 ^ 16 → shares (seat_ops a) (seat_ops b) ≡ false
seats-differ a b before below =
    let other : bytes_eq (decimal b) (decimal a) ≡ false = other_bytes (decimal b) (decimal a) (λ (same : decimal b ≡ decimal a). absurd (omega (arith, before, decimal_injective b a (omega arith) (omega arith) same))) in
    rw other refl

-- no operation of seats comes twice
seats-once : (n : ℕ) → n ≤ 1023 → has_twin (flat_map seat_ops (range_with_len 1 n)) ≡ false
seats-once n small =
    has_twin-flat_map 0 seat_ops (range_with_len 1 n) seat-once (λ i j before below.
    let within : j < n = omega (arith, below, length-range_with_len 1 n) in
    let first : get_or (range_with_len 1 n) i 0 ≡ 1 + i = get_or-range_with_len 1 n i 0 (omega arith) in
    let second : get_or (range_with_len 1 n) j 0 ≡ 1 + j = get_or-range_with_len 1 n j 0 within in
    rw (first, second) (seats-differ (1 + i) (1 + j) (omega arith) (omega arith)))

-- nor is one of a seat one that tells how many are free
seat-no-free : (i : ℕ) (numbers : List ℕ) → shares (seat_ops i) (map free_op numbers) ≡ false
seat-no-free i numbers = rw (← flat_map_single free_op numbers) (shares-flat_map 0 (λ f. free_op f ∷ []) (seat_ops i) numbers (λ k below. refl))

-- no operation comes twice
all-once : (n : ℕ) → n ≤ 1023 → has_twin (seats n).ops ≡ false
all-once n small =
    let numbers = range_with_len 0 (n + 1) in
    has_twin-append (flat_map seat_ops (range_with_len 1 n)) (map free_op numbers) (seats-once n small)
    (replies-once (codes "free") (n + 1) (omega arith))
    (flat_map-shares 0 seat_ops (range_with_len 1 n) (map free_op numbers) (λ i below. seat-no-free (get_or (range_with_len 1 n) i 0) numbers))

-- a change of a seat leads to a state
change-inside : (seat : Seat) (is_legal : Bool) (n i s t : ℕ) → i < n → s < 3 ^ n → where_legal is_legal (with_seat seat s i) ≡ Some t → t < 3 ^ n
change-inside seat is_legal n i s t place below h = rw (← (legal-Some is_legal (with_seat seat s i) t h).1) ((changed seat s i).inside n place below)

-- a step of a seat leads to one
seat-inside : (n i j s t : ℕ) → i < n → s < 3 ^ n → seat_step i j s ≡ Some t → t < 3 ^ n
seat-inside n i zero s t place below h = change-inside Held (is_seat Free s i) n i s t place below h
seat-inside n i (suc zero) s t place below h = omega (arith, below, (legal-Some (not (is_seat Free s i)) s t h).1)
seat-inside n i (suc (suc zero)) s t place below h = change-inside Free (is_seat Held s i) n i s t place below h
seat-inside n i (suc (suc (suc zero))) s t place below h = change-inside Booked (is_seat Held s i) n i s t place below h
seat-inside n i (suc (suc (suc (suc j)))) s t place below h = change-inside Free (is_seat Booked s i) n i s t place below h

-- and so does each step
step-inside : (n k s t : ℕ) (of_seat is_told : Bool) → of_seat ≡ ltb k (5 * n) → s < 3 ^ n → cond of_seat (seat_step (k / 5) (k % 5) s) (where_legal is_told s) ≡ Some t → t < 3 ^ n
step-inside n k s t true is_told is below h = seat-inside n (k / 5) (k % 5) s t (omega (arith, ltb-true k (5 * n) (sym is))) below h
step-inside n k s t false is_told is below h = omega (arith, below, (legal-Some is_told s t h).1)

-- seats that fit have a table
pub seats-table : (n : ℕ) → AreSeats n → SeatsFit n → HasTable (seats n)
seats-table n good fits = record {
  some_states = omega (arith, pow-le-pow_right {n = 3} (omega arith) {i = 0} {j = n} (omega arith));
  states_fit = fits.states;
  some_ops = omega (arith, length-seats n);
  ops_fit = omega (arith, length-seats n, fits.ops);
  no_twin = all-once n good.1;
  steps_inside = λ s k t s_below k_below h. step-inside n k s t (ltb k (5 * n)) (eqb (free_of n s) (k - 5 * n)) refl s_below h;
}

-- ---- one seat more

range-more : (a n j : ℕ) → a + n ≡ j → range_with_len a (n + 1) ≡ range_with_len a n ++ j ∷ []
range-more a n j is = sym (map-id (range_with_len a (n + 1))) ∙ (map-range_with_len_more (λ (i : ℕ). i) a n j is ∙ rw (map-id (range_with_len a n)) refl)

-- it may be free
pub free_more : (n s : ℕ) → free_of (n + 1) s ≡ free_of n s + cond (is_seat Free s n) 1 0
free_more n s = rw (range-more 0 n n (omega arith)) (sum_by_push (λ i. cond (is_seat Free s i) 1 0) (range_with_len 0 n) n)

-- and it has its operations
pub seats_more : (n : ℕ) → flat_map seat_ops (range_with_len 1 (n + 1)) ≡ flat_map seat_ops (range_with_len 1 n) ++ seat_ops (n + 1)
seats_more n = rw (range-more 1 n (n + 1) (omega arith)) (sym (flat_map_more seat_ops [] (range_with_len 1 n) (n + 1)))
