-- No state of seats looks like another: what each seat allows tells them apart.
use Rattle.std.proofs.Common.{◌≡◌, ℕ, zero, suc, ◌+◌, ◌*◌, ◌/◌, ◌%◌, ◌^◌, ◌<◌, eqb, inl, inr, refl, sym, ◌∙◌, arith}
use Rattle.std.proofs.Math.Nat.{pow-succ'}
use Rattle.std.proofs.lemmas.Bool.{cases_eq, eq-eqb, eqb-true, lt-ltb}
use Rattle.type_table.specs.Laws.{StepsWithin}
use Rattle.type_table.specs.Table.{Table}
use Rattle.table_maker.specs.Made.{where_legal}
use Rattle.table_families.specs.Seats.{digit_at, seat_step, seats}
use Rattle.table_families.proofs.SeatFacts.{length-seats}
use Rattle.table_families.proofs.Threes.{digit-later}
use Rattle.made_answers.specs.Laws.{SeatsHaveLoneStates}
use Rattle.made_answers.proofs.Alone.{IsLike, passes_there}

-- the step of an operation of a seat
of_seat : (count i j s : ℕ) → i < count → j < 5 → (seats count).step s (5 * i + j) ≡ seat_step i j s
of_seat count i j s i_in j_in =
    let seat : (5 * i + j) / 5 ≡ i = omega (arith, j_in) in
    let place : (5 * i + j) % 5 ≡ j = omega (arith, j_in) in
    rw (lt-ltb (5 * i + j) (5 * count) (omega (arith, i_in, j_in)), seat, place) refl

-- a seat that has a digit in s has it in t
same_seat : StepsWithin → (count : ℕ) (T : Table) (s t i j digit : ℕ) (end : ℕ → ℕ) → IsLike (seats count) T s t → i < count → j < 5
    → ((u : ℕ) → seat_step i j u ≡ where_legal (eqb (digit_at u i) digit) (end u)) → digit_at s i ≡ digit → digit_at s i ≡ digit_at t i
same_seat within count T s t i j digit end like i_in j_in steps is =
    let there = passes_there within (seats count) T s t (5 * i + j) (λ u. eqb (digit_at u i) digit) end like (omega (arith, i_in, j_in, length-seats count))
    (λ u. of_seat count i j u i_in j_in ∙ steps u) (eq-eqb (digit_at s i) digit is) in
    is ∙ sym (eqb-true (digit_at t i) digit there)

-- a free one may be held, a held one released, a booked one cancelled
same_digit : StepsWithin → (count : ℕ) (T : Table) (s t i : ℕ) → IsLike (seats count) T s t → i < count → digit_at s i ≡ digit_at t i
same_digit within count T s t i like i_in = elim (cases_eq (digit_at s i) 0) [
  | inl free ↦ same_seat within count T s t i 0 0 _ like i_in (omega arith) (λ u. refl) free
  | inr other ↦ elim (cases_eq (digit_at s i) 1) [
    | inl held ↦ same_seat within count T s t i 2 1 _ like i_in (omega arith) (λ u. refl) held
    | inr last ↦ same_seat within count T s t i 4 2 _ like i_in (omega arith) (λ u. refl) (omega (arith, other, last))
  ]
]

-- numbers with the same digits are equal
same_number : (n s t : ℕ) → s < 3 ^ n → t < 3 ^ n → ((i : ℕ) → i < n → digit_at s i ≡ digit_at t i) → s ≡ t
same_number zero s t first second same = omega (arith, first, second)
same_number (suc n) s t first second same =
    let least : digit_at s 0 ≡ digit_at t 0 = same 0 (omega arith) in
    let rest : s / 3 ≡ t / 3 =
    same_number n (s / 3) (t / 3) (omega (arith, first, pow-succ' 3 n)) (omega (arith, second, pow-succ' 3 n))
    (λ i i_in. sym (digit-later s i) ∙ same (suc i) (omega (arith, i_in)) ∙ digit-later t i) in
    omega (arith, least, rest)

pub seats_have_lone_states : StepsWithin → SeatsHaveLoneStates
seats_have_lone_states within = λ count file is s t s_in t_in looks.
    let states = is.table.states in
    let first : s < 3 ^ count = omega (arith, s_in, states) in
    let second : t < 3 ^ count = omega (arith, t_in, states) in
    let like : IsLike (seats count) file.table s t = record { table = is.made.table; of_family = is.table; first = first; second = second; looks = looks } in
    same_number count s t first second (λ i i_in. same_digit within count file.table s t i like i_in)
