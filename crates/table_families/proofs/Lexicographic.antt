-- The lists of counts are all lists with a bounded sum, in lexicographic order.
use Rattle.std.proofs.Common.{◌≡◌, inl, inr, ℕ, zero, suc, ◌+◌, ◌-◌, ◌<◌, ◌≤◌, List, [], ◌∷◌, ◌++◌, length, map, get_or, Contains, All, sum, refl, ap, ◌∙◌, arith, length-append}
use Rattle.std.specs.List.{flat_map, range_with_len}
use Rattle.std.proofs.lemmas.Bool.{cases_eq, cases_lt}
use Rattle.std.proofs.lemmas.List.{length-map, get_or-map, get_or_append_left, get_or-append_right}
use Rattle.std.proofs.lemmas.List.Elements.{All-nil, All-cons, All-append, All-map, All-weaker, All-get_or, All-contains, Contains-append_left, Contains-append_right}
use Rattle.std.proofs.lemmas.List.Sums.{sum_by-cons}
use Rattle.table_families.specs.Counts.{counts_within, CountsPrecede, AreCountsWithin}
use Rattle.table_families.proofs.Numbers.{beginning_with}

-- ---- each is of this many counts, with a sum within the room

abbrev IsWithin : ℕ → ℕ → List ℕ → Type 0
IsWithin n room cs = (length cs ≡ n) × (sum cs ≤ room)

within-first : (n room c : ℕ) (cs : List ℕ) → c ≤ room → IsWithin n (room - c) cs → IsWithin (suc n) room (c ∷ cs)
within-first n room c cs below h = (ap suc h.0, omega (arith, sum_by-cons (λ (x : ℕ). x) c cs, h.1))

All-pieces : (n room a m : ℕ) → a + m ≤ room + 1 → ((c : ℕ) → All (IsWithin n (room - c)) (counts_within n (room - c))) → All (IsWithin (suc n) room) (flat_map (beginning_with n room) (range_with_len a m))
All-pieces n room a zero fits each = All-nil (IsWithin (suc n) room)
All-pieces n room a (suc m) fits each =
    All-append (IsWithin (suc n) room) (beginning_with n room a) (flat_map (beginning_with n room) (range_with_len (a + 1) m))
    (All-map (IsWithin (suc n) room) (λ cs. a ∷ cs) (counts_within n (room - a)) (All-weaker (IsWithin n (room - a)) (λ cs. IsWithin (suc n) room (a ∷ cs)) (λ cs h. within-first n room a cs (omega arith) h) (counts_within n (room - a)) (each a)))
    (All-pieces n room (a + 1) m (omega arith) each)

All-within : (n room : ℕ) → All (IsWithin n room) (counts_within n room)
All-within zero room = All-cons (IsWithin zero room) [] [] (refl, omega arith) (All-nil (IsWithin zero room))
All-within (suc n) room = All-pieces n room 0 (room + 1) (omega arith) (λ c. All-within n (room - c))

-- so a state's list is
pub within-at : (n room s : ℕ) (cs : List ℕ) → s < length (counts_within n room) → cs ≡ get_or (counts_within n room) s [] → (length cs ≡ n) × (sum cs ≤ room)
within-at n room s cs below e = rw e (All-get_or (IsWithin n room) (counts_within n room) s [] below (All-within n room))

-- ---- each such list is there

Contains-first : (c : ℕ) (lists : List (List ℕ)) (cs : List ℕ) → Contains lists cs → Contains (map (λ cs. c ∷ cs) lists) (c ∷ cs)
Contains-first c lists cs h = (h.0, rw length-map h.1, get_or-map (λ cs. c ∷ cs) lists h.0 cs (c ∷ cs) h.1 ∙ ap (λ cs. c ∷ cs) h.2)

Contains-piece : (n room a m c : ℕ) (cs : List ℕ) → a ≤ c → c < a + m → Contains (counts_within n (room - c)) cs → Contains (flat_map (beginning_with n room) (range_with_len a m)) (c ∷ cs)
Contains-piece n room a zero c cs above below h = absurd (omega arith)
Contains-piece n room a (suc m) c cs above below h = elim (cases_eq a c) [
  | inl same ↦ Contains-append_left (beginning_with n room a) (flat_map (beginning_with n room) (range_with_len (a + 1) m)) (c ∷ cs) (rw same (Contains-first c (counts_within n (room - c)) cs h))
  | inr other ↦ Contains-append_right (beginning_with n room a) (flat_map (beginning_with n room) (range_with_len (a + 1) m)) (c ∷ cs) (Contains-piece n room (a + 1) m c cs (omega arith) (omega arith) h)
]

Contains-within : (n room : ℕ) (cs : List ℕ) → length cs ≡ n → sum cs ≤ room → Contains (counts_within n room) cs
Contains-within zero room [] len fits = (0, omega arith, refl)
Contains-within zero room (c ∷ cs) len fits = cc
Contains-within (suc n) room [] len fits = cc
Contains-within (suc n) room (c ∷ cs) len fits =
    let parts = sum_by-cons (λ (x : ℕ). x) c cs in
    Contains-piece n room 0 (room + 1) c cs (omega arith) (omega (arith, parts, fits)) (Contains-within n (room - c) cs (omega (arith, len)) (omega (arith, parts, fits)))

-- ---- in lexicographic order

-- each comes before the later ones
record Ascends (lists : List (List ℕ)) : Type 0 where
  before : (i j : ℕ) → i < j → j < length lists → CountsPrecede (get_or lists i []) (get_or lists j [])

-- a list begins with a count that passes
record Begins (P : ℕ → Type 0) (cs : List ℕ) : Type 0 where
  some : 0 < length cs
  first : P (get_or cs 0 0)

-- after the same first count the order stays
before-first : (c : ℕ) (a b : List ℕ) → CountsPrecede a b → CountsPrecede (c ∷ a) (c ∷ b)
before-first c a b h = record {
  place = suc h.place;
  within = omega (arith, h.within);
  common = common;
  smaller = h.smaller;
}
  where
    common : (i : ℕ) → i < suc h.place → get_or (c ∷ a) i 0 ≡ get_or (c ∷ b) i 0
    common zero below = refl
    common (suc i) below = h.common i (omega arith)

-- a smaller first count decides
before-smaller : (a b : List ℕ) (c : ℕ) → Begins (λ x. x ≡ c) a → Begins (λ x. c < x) b → CountsPrecede a b
before-smaller a b c begins later = record {
  place = 0;
  within = later.some;
  common = λ i below. absurd (omega arith);
  smaller = omega (arith, begins.first, later.first);
}

Ascends-first : (c : ℕ) (lists : List (List ℕ)) → Ascends lists → Ascends (map (λ cs. c ∷ cs) lists)
Ascends-first c lists h = record {
  before = λ i j below within.
      let inside : j < length lists = rw length-map at within in
      rw (get_or-map (λ cs. c ∷ cs) lists i [] [] (omega arith), get_or-map (λ cs. c ∷ cs) lists j [] [] inside)
      (before-first c (get_or lists i []) (get_or lists j []) (h.before i j below inside));
}

Ascends-append : (xs ys : List (List ℕ)) → Ascends xs → Ascends ys →
    ((i j : ℕ) → i < length xs → j < length ys → CountsPrecede (get_or xs i []) (get_or ys j [])) → Ascends (xs ++ ys)
Ascends-append xs ys front back across = record { before = before }
  where
    at_left : (i : ℕ) → i < length xs → get_or (xs ++ ys) i [] ≡ get_or xs i []
    at_left i h = get_or_append_left xs ys [] i h

    at_right : (i : ℕ) → length xs ≤ i → get_or (xs ++ ys) i [] ≡ get_or ys (i - length xs) []
    at_right i h = get_or-append_right xs ys (length xs) i [] refl h

    before : (i j : ℕ) → i < j → j < length (xs ++ ys) → CountsPrecede (get_or (xs ++ ys) i []) (get_or (xs ++ ys) j [])
    before i j below within =
        let inside : j < length xs + length ys = rw length-append at within in
        elim (cases_lt j (length xs)) [
          | inl left ↦ rw (at_left i (omega arith), at_left j left) (front.before i j below left)
          | inr right ↦ elim (cases_lt i (length xs)) [
            | inl left ↦ rw (at_left i left, at_right j right) (across i (j - length xs) left (omega arith))
            | inr behind ↦ rw (at_right i behind, at_right j right) (back.before (i - length xs) (j - length xs) (omega arith) (omega arith))
          ]
        ]

-- all of a piece begin with its count
All-begin : (n room c : ℕ) → All (Begins (λ x. x ≡ c)) (beginning_with n room c)
All-begin n room c = All-map (Begins (λ x. x ≡ c)) (λ cs. c ∷ cs) (counts_within n (room - c)) (λ k d below. record { some = omega arith; first = refl })

-- and those of later pieces with a greater one
All-later : (n room c a m : ℕ) → c < a → All (Begins (λ x. c < x)) (flat_map (beginning_with n room) (range_with_len a m))
All-later n room c a zero above = All-nil (Begins (λ x. c < x))
All-later n room c a (suc m) above =
    All-append (Begins (λ x. c < x)) (beginning_with n room a) (flat_map (beginning_with n room) (range_with_len (a + 1) m))
    (All-map (Begins (λ x. c < x)) (λ cs. a ∷ cs) (counts_within n (room - a)) (λ k d below. record { some = omega arith; first = above }))
    (All-later n room c (a + 1) m (omega arith))

Ascends-pieces : (n room a m : ℕ) → ((c : ℕ) → Ascends (counts_within n (room - c))) → Ascends (flat_map (beginning_with n room) (range_with_len a m))
Ascends-pieces n room a zero each = record { before = λ i j below within. absurd (omega arith) }
Ascends-pieces n room a (suc m) each =
    let later = flat_map (beginning_with n room) (range_with_len (a + 1) m) in
    Ascends-append (beginning_with n room a) later (Ascends-first a (counts_within n (room - a)) (each a)) (Ascends-pieces n room (a + 1) m each) (λ i j left right.
    before-smaller (get_or (beginning_with n room a) i []) (get_or later j []) a
    (All-get_or (Begins (λ x. x ≡ a)) (beginning_with n room a) i [] left (All-begin n room a))
    (All-get_or (Begins (λ x. a < x)) later j [] right (All-later n room a (a + 1) m (omega arith))))

Ascends-within : (n room : ℕ) → Ascends (counts_within n room)
Ascends-within zero room = record { before = λ i j below within. absurd (omega arith) }
Ascends-within (suc n) room = Ascends-pieces n room 0 (room + 1) (λ c. Ascends-within n (room - c))

-- the law
pub in_order : (n room : ℕ) → AreCountsWithin n room (counts_within n room)
in_order n room = record {
  all = λ cs. (All-contains (IsWithin n room) (counts_within n room) cs (All-within n room), λ h. Contains-within n room cs h.0 h.1);
  ascending = (Ascends-within n room).before;
}
