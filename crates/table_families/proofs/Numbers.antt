-- How many lists of counts there are: Pascal's rule.
use Rattle.std.proofs.Common.{◌≡◌, ℕ, zero, suc, ◌+◌, ◌-◌, ◌<◌, ◌≤◌, List, ◌∷◌, length, map, min, get_or, set, replicate, refl, sym, ◌∙◌, inl, inr, arith, add-one, length-append, get_or-set_other, get_or-set_same}
use Rattle.std.specs.List.{flat_map, range_with_len}
use Rattle.std.proofs.lemmas.List.{length-map, length-set, length-replicate, get_or-replicate}
use Rattle.std.proofs.lemmas.Bool.{cases_eq}
use Rattle.table_families.specs.Counts.{counts_within, number_within, AreNumbers}

-- the lists that begin with c
abbrev pub beginning_with : ℕ → ℕ → ℕ → List (List ℕ)
beginning_with n room c = map (λ cs. c ∷ cs) (counts_within n (room - c))

-- the lists of one more count
pub counts-more : (n room : ℕ) → counts_within (suc n) room ≡ flat_map (beginning_with n room) (range_with_len 0 (suc room))
counts-more n room = rw add-one refl

-- with one more of room and a first count that is one more there are as many lists
length-shifted : (n room a m : ℕ) → length (flat_map (beginning_with n (suc room)) (range_with_len (suc a) m)) ≡ length (flat_map (beginning_with n room) (range_with_len a m))
length-shifted n room a zero = refl
length-shifted n room a (suc m) =
    let same : suc room - suc a ≡ room - a = omega arith in
    let later : suc a + 1 ≡ suc (a + 1) = omega arith in
    rw (length-append, length-append, length-map, length-map, same, later, length-shifted n room (a + 1) m) refl

-- Pascal's rule
pub length-step : (n room : ℕ) → length (counts_within (suc n) (suc room)) ≡ length (counts_within n (suc room)) + length (counts_within (suc n) room)
length-step n room =
    let whole : suc room - 0 ≡ suc room = omega arith in
    rw (counts-more n (suc room), counts-more n room, length-append, length-map, whole, length-shifted n room 0 (suc room)) refl

-- there is one list without room
pub length-none : (n : ℕ) → length (counts_within n 0) ≡ 1
length-none zero = refl
length-none (suc n) = rw (length-append, length-map, length-none n) refl

-- there is some list
pub length-some : (n room : ℕ) → 0 < length (counts_within n room)
length-some zero room = omega arith
length-some (suc n) room = rw (counts-more n room, length-append, length-map) (omega (arith, length-some n (room - 0)))

-- the same of the numbers up to 1,025
number-step : (n room below : ℕ) → room ≡ suc below → min (number_within (suc n) below + number_within n room) 1025 ≡ number_within (suc n) room
number-step n room below e = rw e (rw (length-step n below) (omega arith))

number-none : (n : ℕ) → number_within n 0 ≡ 1
number-none n = omega (arith, length-none n)

-- a sum of numbers as far as a room: below it the numbers are those of one more count, and from it on they are as they were
pub record IsSummed (old numbers : List ℕ) (room : ℕ) : Type 0 where
  pub whole : length numbers ≡ 1024
  pub small : (k : ℕ) → k < 1024 → get_or numbers k 0 ≤ 1025
  pub below : (n : ℕ) → AreNumbers n old → (k : ℕ) → k < room → get_or numbers k 0 ≡ number_within (suc n) k
  pub above : (k : ℕ) → room ≤ k → get_or numbers k 0 ≡ get_or old k 0

-- at the beginning the number of room 0 is right
pub IsSummed-none : (old : List ℕ) → length old ≡ 1024 → ((k : ℕ) → k < 1024 → get_or old k 0 ≤ 1025) → IsSummed old old 1
IsSummed-none old whole small = record {
  whole = whole;
  small = small;
  below = λ n are k within.
      let none : k ≡ 0 = omega arith in
      rw none (are.each 0 (omega arith) ∙ number-none n ∙ sym (number-none (suc n)));
  above = λ k h. refl;
}

-- one more room
pub IsSummed-more : (old numbers : List ℕ) (room sum : ℕ) → IsSummed old numbers room → 1 ≤ room → room < 1024 →
    sum ≡ min (get_or numbers (room - 1) 0 + get_or numbers room 0) 1025 → IsSummed old (set numbers room sum) (room + 1)
IsSummed-more old numbers room sum known some fits e = record {
  whole = length-set numbers room sum ∙ known.whole;
  small = λ k within. by_place k (known.small k within);
  below = λ n are k within. elim (cases_eq k room) [
    | inl same ↦ rw same (get_or-set_same numbers room sum 0 here ∙ at_room n are)
    | inr other ↦ get_or-set_other numbers room k sum 0 other ∙ known.below n are k (omega arith)
  ];
  above = λ k within. get_or-set_other numbers room k sum 0 (omega arith) ∙ known.above k (omega arith);
}
  where
    here : room < length numbers
    here = omega (arith, known.whole)

    by_place : (k : ℕ) → get_or numbers k 0 ≤ 1025 → get_or (set numbers room sum) k 0 ≤ 1025
    by_place k h = elim (cases_eq k room) [
      | inl same ↦ rw same (rw (get_or-set_same numbers room sum 0 here) (omega (arith, e)))
      | inr other ↦ rw (get_or-set_other numbers room k sum 0 other) h
    ]

    at_room : (n : ℕ) → AreNumbers n old → sum ≡ number_within (suc n) room
    at_room n are =
        let one_less = known.below n are (room - 1) (omega arith) in
        let same = known.above room (omega arith) ∙ are.each room fits in
        e ∙ rw (one_less, same) (number-step n room (room - 1) (omega arith))

-- at the end they are the numbers of one more count
pub IsSummed-all : (old numbers : List ℕ) (n : ℕ) → IsSummed old numbers 1024 → AreNumbers n old → AreNumbers (n + 1) numbers
IsSummed-all old numbers n known are = record {
  whole = known.whole;
  each = λ room within. rw add-one (known.below n are room within);
}

-- without counts there is the empty list alone
pub AreNumbers-none : AreNumbers 0 (replicate 1024 1)
AreNumbers-none = record {
  whole = length-replicate {A = ℕ} 1024 1;
  each = λ room within. get_or-replicate {A = ℕ} 1024 room 1 0 within;
}

-- the numbers are small
pub AreNumbers-small : (n : ℕ) (numbers : List ℕ) → AreNumbers n numbers → (k : ℕ) → k < 1024 → get_or numbers k 0 ≤ 1025
AreNumbers-small n numbers are k within = rw (are.each k within) (omega arith)
