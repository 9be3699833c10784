-- Seats: each is free, held or booked, and may be held, released, booked and cancelled; how many are free may be asked.
use Rattle.std.specs.Prelude.{◌≡◌, ◌≢◌, ℕ, zero, suc, ◌+◌, ◌*◌, ◌-◌, ◌/◌, ◌%◌, ◌^◌, ◌<◌, ◌≤◌, Bool, not, List, [], ◌∷◌, ◌++◌, map, nat_lt, ◌==◌, if◌then◌else◌, Option, codes}
use Rattle.std.specs.Fmt.{decimal}
use Rattle.std.specs.List.{count_by, flat_map, range_with_len}
use Rattle.type_table.specs.declared.op.Op.{Op}
use Rattle.table_maker.specs.Made.{Family, op_named, where_legal}
use Rattle.table_families.specs.declared.seats.Seat.{Seat}
use Rattle.table_families.specs.declared.seats.Seat.TheVariants.{Free, Held, Booked}

-- a seat's digit in a state
abbrev pub digit_of : Seat → ℕ
digit_of Free = 0
digit_of Held = 1
digit_of Booked = 2

-- the digit of seat i in base 3, where seats are counted from 0 and the least digit is the first seat's
abbrev pub digit_at : ℕ → ℕ → ℕ
digit_at s i = s / 3 ^ i % 3

-- seat i is such
abbrev pub is_seat : Seat → ℕ → ℕ → Bool
is_seat seat s i = digit_at s i == digit_of seat

-- the state with seat i made such
abbrev pub with_seat : Seat → ℕ → ℕ → ℕ
with_seat seat s i = s - digit_at s i * 3 ^ i + digit_of seat * 3 ^ i

-- the law: a seat is what it was made, each other seat is what it was, and the state is one of as many seats
pub record IsWithSeat (seat : Seat) (s i t : ℕ) : Type 0 where
  pub made : digit_at t i ≡ digit_of seat
  pub others : (j : ℕ) → j ≢ i → digit_at t j ≡ digit_at s j
  pub inside : (n : ℕ) → i < n → s < 3 ^ n → t < 3 ^ n

abbrev pub ChangesOneSeat : Type 0
ChangesOneSeat = (seat : Seat) (s i : ℕ) → IsWithSeat seat s i (with_seat seat s i)

-- how many of n seats are free
abbrev pub free_of : ℕ → ℕ → ℕ
free_of n s = count_by (is_seat Free s) (range_with_len 0 n)

-- the five operations of a seat, by its number
abbrev pub seat_ops : ℕ → List Op
seat_ops number =
    op_named (codes "hold:" ++ decimal number) (codes "ok") ∷ op_named (codes "hold:" ++ decimal number) (codes "taken")
    ∷ op_named (codes "release:" ++ decimal number) (codes "ok") ∷ op_named (codes "book:" ++ decimal number) (codes "ok")
    ∷ op_named (codes "cancel:" ++ decimal number) (codes "ok") ∷ []

-- their steps, by their place
abbrev pub seat_step : ℕ → ℕ → ℕ → Option ℕ
seat_step i zero s = where_legal (is_seat Free s i) (with_seat Held s i)
seat_step i (suc zero) s = where_legal (not (is_seat Free s i)) s
seat_step i (suc (suc zero)) s = where_legal (is_seat Held s i) (with_seat Free s i)
seat_step i (suc (suc (suc zero))) s = where_legal (is_seat Held s i) (with_seat Booked s i)
seat_step i (suc (suc (suc (suc _)))) s = where_legal (is_seat Booked s i) (with_seat Free s i)

-- the operation that tells how many are free
abbrev pub free_op : ℕ → Op
free_op f = op_named (codes "free") (decimal f)

-- seats are numbered from 1; operation 5 i + j is the j-th of seat i, and after them there is one for each number of free seats
abbrev pub seats : ℕ → Family
seats n = record {
  name = codes "seats";
  states = 3 ^ n;
  ops = flat_map seat_ops (range_with_len 1 n) ++ map free_op (range_with_len 0 (n + 1));
  step = λ s k. if nat_lt k (5 * n) then seat_step (k / 5) (k % 5) s else where_legal (free_of n s == k - 5 * n) s;
}

-- 1 to 1,023 seats
abbrev pub AreSeats : ℕ → Type 0
AreSeats n = (1 ≤ n) × (n ≤ 1023)

-- at most 64 operations and 1,024 states
pub record SeatsFit (n : ℕ) : Type 0 where
  pub ops : 5 * n + (n + 1) ≤ 64
  pub states : 3 ^ n ≤ 1024
