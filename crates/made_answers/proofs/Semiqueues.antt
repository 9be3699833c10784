-- No state of a semiqueue looks like another: how often an element comes out tells how many there are, and what still goes in tells how many are
-- there in all.
use Rattle.std.proofs.Common.{◌≡◌, ℕ, zero, suc, ◌+◌, ◌-◌, ◌<◌, ◌≤◌, Bool, true, List, [], ◌∷◌, length, get_or, set, Contains, sum, Some, None, inl, inr, refl, sym, ap, subst, ◌∙◌, arith}
use Rattle.std.specs.List.{position_or_len}
use Rattle.std.specs.Str.{bytes_eq}
use Rattle.std.proofs.lemmas.Bool.{cases_Bool, cases_lt, cases_order, le-leb, lt-leb, le-ltb, lt-ltb}
use Rattle.std.proofs.lemmas.List.{get_or-set_same, length-set}
use Rattle.std.proofs.lemmas.List.Quantifiers.{position-Some}
use Rattle.std.proofs.lemmas.List.Sums.{sum_by-cons, sum_by-set}
use Rattle.std.proofs.lemmas.Option.{none-some, same_Some}
use Rattle.std.proofs.lemmas.Slice.Eq.{bytes_eq-Decides}
use Rattle.type_table.specs.Laws.{StepsWithin}
use Rattle.type_table.specs.Table.{Table}
use Rattle.table_families.specs.Counts.{counts_within}
use Rattle.table_families.specs.Semiqueue.{semiqueue, semiqueue_state}
use Rattle.table_families.proofs.Lexicographic.{in_order, within-at}
use Rattle.table_families.proofs.QueueTable.{length-ops}
use Rattle.table_families.proofs.Twins.{same_bytes}
use Rattle.made_answers.specs.Laws.{SemiqueuesHaveLoneStates}
use Rattle.made_answers.proofs.Alone.{IsLike, like_after}

-- ---- lists of counts

-- where an element passes, a first one does
first_passes : {E : Type 0} (p : E → Bool) (xs : List E) (k : ℕ) (d : E) → k < length xs → p (get_or xs k d) ≡ true → position_or_len p xs < length xs
first_passes p [] k d k_in passes = absurd (omega (arith, k_in))
first_passes p (x ∷ xs) zero d k_in passes = rw passes (omega arith)
first_passes p (x ∷ xs) (suc k) d k_in passes = elim (cases_Bool (p x)) [
  | inl here ↦ rw here (omega arith)
  | inr other ↦ rw other (omega (arith, first_passes p xs k d (omega (arith, k_in)) passes))
]

-- the state of a list that is there
pub record IsStateOf (lists : List (List ℕ)) (counts : List ℕ) (t : ℕ) : Type 0 where
  pub found : semiqueue_state lists counts ≡ Some t
  pub inside : t < length lists
  pub counts_are : get_or lists t [] ≡ counts

state_of : (lists : List (List ℕ)) (counts : List ℕ) → Contains lists counts → (t : ℕ) × IsStateOf lists counts t
state_of lists counts there =
    let test : List ℕ → Bool = λ other. bytes_eq other counts in
    let passes : test (get_or lists there.0 counts) ≡ true = ap test there.2 ∙ same_bytes counts in
    let first = first_passes test lists there.0 counts there.1 passes in
    let found : semiqueue_state lists counts ≡ Some (position_or_len test lists) = rw (lt-ltb (position_or_len test lists) (length lists) first) refl in
    let known = position-Some test lists (position_or_len test lists) [] found in
    (position_or_len test lists, record { found = found; inside = known.0; counts_are = (bytes_eq-Decides (get_or lists (position_or_len test lists) []) counts).0 known.1 })

-- counts of which none is more than that of another list add up to no more
sum_most : (cs ds : List ℕ) → length cs ≡ length ds → ((i : ℕ) → i < length cs → get_or cs i 0 ≤ get_or ds i 0) → sum cs ≤ sum ds
sum_most [] [] same each = omega arith
sum_most [] (d ∷ ds) same each = absurd (omega (arith, same))
sum_most (c ∷ cs) [] same each = absurd (omega (arith, same))
sum_most (c ∷ cs) (d ∷ ds) same each =
    let rest = sum_most cs ds (omega (arith, same)) (λ i i_in. each (suc i) (omega (arith, i_in))) in
    omega (arith, rest, each 0 (omega arith), sum_by-cons (λ (x : ℕ). x) c cs, sum_by-cons (λ (x : ℕ). x) d ds)

-- and where they don't add up to less, they are the same
same_counts : (cs ds : List ℕ) → length cs ≡ length ds → ((i : ℕ) → i < length cs → get_or cs i 0 ≤ get_or ds i 0) → sum ds ≤ sum cs → cs ≡ ds
same_counts [] [] same each most = refl
same_counts [] (d ∷ ds) same each most = absurd (omega (arith, same))
same_counts (c ∷ cs) [] same each most = absurd (omega (arith, same))
same_counts (c ∷ cs) (d ∷ ds) same each most =
    let later = λ (i : ℕ) (i_in : i < length cs). each (suc i) (omega (arith, i_in)) in
    let below = sum_most cs ds (omega (arith, same)) later in
    let sums = sum_by-cons (λ (x : ℕ). x) c cs in
    let other_sums = sum_by-cons (λ (x : ℕ). x) d ds in
    let first : c ≡ d = omega (arith, below, each 0 (omega arith), most, sums, other_sums) in
    let rest = same_counts cs ds (omega (arith, same)) later (omega (arith, first, most, sums, other_sums)) in
    rw (first, rest) refl

-- ---- steps

module _ (elements : List (List ℕ)) (capacity : ℕ) where
  abbrev lists : List (List ℕ)
  lists = counts_within (length elements) capacity

  -- how many of each element a state holds
  abbrev held : ℕ → List ℕ
  held s = get_or lists s []

  abbrev count : ℕ → ℕ → ℕ
  count s i = get_or (held s) i 0

  -- an element goes in, where there is room
  goes_in : (s i : ℕ) → s < length lists → i < length elements → sum (held s) < capacity
      → (t : ℕ) × ((semiqueue elements capacity).step s i ≡ Some t) × IsStateOf lists (set (held s) i (count s i + 1)) t
  goes_in s i s_in i_in room =
      let known = within-at (length elements) capacity s (held s) s_in refl in
      let more = sum_by-set (λ (x : ℕ). x) (held s) i (count s i + 1) 0 (omega (arith, i_in, known.0)) in
      let there = state_of lists (set (held s) i (count s i + 1)) (((in_order (length elements) capacity).all (set (held s) i (count s i + 1))).1 (length-set (held s) i (count s i + 1) ∙ known.0, omega (arith, more, room))) in
      (there.0, rw (lt-ltb i (length elements) i_in, lt-ltb (sum (held s)) capacity room) there.1.found, there.1)

  full : (s i : ℕ) → i < length elements → capacity ≤ sum (held s) → (semiqueue elements capacity).step s i ≡ None
  full s i i_in none = rw (lt-ltb i (length elements) i_in, le-ltb (sum (held s)) capacity none) refl

  -- it comes out, where one is held
  comes_out : (s i : ℕ) → s < length lists → i < length elements → 1 ≤ count s i
      → (t : ℕ) × ((semiqueue elements capacity).step s (length elements + i) ≡ Some t) × IsStateOf lists (set (held s) i (count s i - 1)) t
  comes_out s i s_in i_in some =
      let known = within-at (length elements) capacity s (held s) s_in refl in
      let less = sum_by-set (λ (x : ℕ). x) (held s) i (count s i - 1) 0 (omega (arith, i_in, known.0)) in
      let there = state_of lists (set (held s) i (count s i - 1)) (((in_order (length elements) capacity).all (set (held s) i (count s i - 1))).1 (length-set (held s) i (count s i - 1) ∙ known.0, omega (arith, less, known.1))) in
      let place : length elements + i - length elements ≡ i = omega arith in
      (there.0, rw (le-ltb (length elements + i) (length elements) (omega arith), place, le-leb 1 (count s i) some) there.1.found, there.1)

  empty : (s i : ℕ) → count s i < 1 → (semiqueue elements capacity).step s (length elements + i) ≡ None
  empty s i none =
      let place : length elements + i - length elements ≡ i = omega arith in
      rw (le-ltb (length elements + i) (length elements) (omega arith), place, lt-leb 1 (count s i) none) refl

  -- ---- what looks like what

  abbrev AreLike : Table → ℕ → ℕ → Type 0
  AreLike T s t = IsLike (semiqueue elements capacity) T s t

  -- where k of an element are, there are k in what it looks like
  count_there : StepsWithin → (T : Table) (k s t i : ℕ) → AreLike T s t → i < length elements → k ≤ count s i → k ≤ count t i
  count_there within T zero s t i like i_in enough = omega arith
  count_there within T (suc k) s t i like i_in enough =
      let out = comes_out s i like.first i_in (omega (arith, enough)) in
      let after = like_after within (semiqueue elements capacity) T s t (length elements + i) out.0 like (omega (arith, i_in, length-ops elements)) out.1 in
      let s_known = within-at (length elements) capacity s (held s) like.first refl in
      let t_known = within-at (length elements) capacity t (held t) like.second refl in
      let s_rest : count out.0 i ≡ count s i - 1 = ap (λ (cs : List ℕ). get_or cs i 0) out.2.counts_are ∙ get_or-set_same (held s) i (count s i - 1) 0 (omega (arith, i_in, s_known.0)) in
      elim (cases_lt (count t i) 1) [
        | inl none ↦ absurd (none-some after.0 (sym (empty t i none) ∙ after.1))
        | inr some ↦
            let there = comes_out t i like.second i_in some in
            let same : after.0 ≡ there.0 = same_Some after.0 there.0 (sym after.1 ∙ there.1) in
            let t_rest : count there.0 i ≡ count t i - 1 = ap (λ (cs : List ℕ). get_or cs i 0) there.2.counts_are ∙ get_or-set_same (held t) i (count t i - 1) 0 (omega (arith, i_in, t_known.0)) in
            let rest = count_there within T k out.0 there.0 i (subst (λ u. AreLike T out.0 u) same after.2) i_in (omega (arith, enough, s_rest)) in
            omega (arith, rest, t_rest, some)
      ]

  -- where k more have room, they have room in what it looks like
  room_there : StepsWithin → (T : Table) → 0 < length elements → (k s t : ℕ) → AreLike T s t → sum (held s) + k ≤ capacity → sum (held t) + k ≤ capacity
  room_there within T some zero s t like fits = omega (arith, (within-at (length elements) capacity t (held t) like.second refl).1)
  room_there within T some (suc k) s t like fits =
      let into = goes_in s 0 like.first some (omega (arith, fits)) in
      let after = like_after within (semiqueue elements capacity) T s t 0 into.0 like (omega (arith, some, length-ops elements)) into.1 in
      let s_known = within-at (length elements) capacity s (held s) like.first refl in
      let t_known = within-at (length elements) capacity t (held t) like.second refl in
      let s_sum = sum_by-set (λ (x : ℕ). x) (held s) 0 (count s 0 + 1) 0 (omega (arith, some, s_known.0)) in
      let s_more : sum (held into.0) ≡ sum (held s) + 1 = ap sum into.2.counts_are ∙ omega (arith, s_sum) in
      elim (cases_lt (sum (held t)) capacity) [
        | inl free ↦
            let there = goes_in t 0 like.second some free in
            let same : after.0 ≡ there.0 = same_Some after.0 there.0 (sym after.1 ∙ there.1) in
            let t_sum = sum_by-set (λ (x : ℕ). x) (held t) 0 (count t 0 + 1) 0 (omega (arith, some, t_known.0)) in
            let t_more : sum (held there.0) ≡ sum (held t) + 1 = ap sum there.2.counts_are ∙ omega (arith, t_sum) in
            let rest = room_there within T some k into.0 there.0 (subst (λ u. AreLike T into.0 u) same after.2) (omega (arith, fits, s_more)) in
            omega (arith, rest, t_more)
        | inr none ↦ absurd (none-some after.0 (sym (full t 0 some none) ∙ after.1))
      ]

  -- an earlier state holds other counts
  earlier_differs : (s t : ℕ) → s < t → t < length lists → held s ≡ held t → ⊥
  earlier_differs s t before t_in same =
      let precedes = (in_order (length elements) capacity).ascending s t before t_in in
      omega (arith, precedes.smaller, ap (λ (cs : List ℕ). get_or cs precedes.place 0) same)

  same_state : StepsWithin → (T : Table) → 0 < length elements → (s t : ℕ) → AreLike T s t → s ≡ t
  same_state within T some s t like =
      let s_known = within-at (length elements) capacity s (held s) like.first refl in
      let t_known = within-at (length elements) capacity t (held t) like.second refl in
      let room = room_there within T some (capacity - sum (held s)) s t like (omega (arith, s_known.1)) in
      let same = same_counts (held s) (held t) (s_known.0 ∙ sym t_known.0) (λ i i_in. count_there within T (count s i) s t i like (omega (arith, i_in, s_known.0)) (omega arith)) (omega (arith, room, s_known.1)) in
      elim (cases_order s t) [
        | inl equal ↦ equal
        | inr apart ↦ elim apart [
          | inl less ↦ absurd (earlier_differs s t less like.second same)
          | inr more ↦ absurd (earlier_differs t s more like.first (sym same))
        ]
      ]

pub semiqueues_have_lone_states : StepsWithin → SemiqueuesHaveLoneStates
semiqueues_have_lone_states within = λ elements capacity file is s t s_in t_in looks.
    let some : 0 < length elements = omega (arith, is.made.table.some_ops, ap length is.table.ops, length-ops elements) in
    let like : IsLike (semiqueue elements capacity) file.table s t = record {
      table = is.made.table;
      of_family = is.table;
      first = omega (arith, s_in, is.table.states);
      second = omega (arith, t_in, is.table.states);
      looks = looks;
    } in
    same_state elements capacity within file.table some s t like
