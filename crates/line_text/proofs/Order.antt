-- How the items of an accepted text are ordered.
use Rattle.std.proofs.Common.{◌≡◌, ◌≢◌, ℕ, zero, suc, ◌+◌, ◌-◌, ◌<◌, ◌≤◌, Bool, true, false, not, ◌&&◌, ◌||◌, cond, eqb, leb, ltb, List, [], ◌∷◌, length, take, Option, Some, None, refl, sym, ap, ◌∙◌, inl, inr, arith}
use Rattle.std.specs.Prelude.{IsSome}
use Rattle.std.specs.List.{slice_get, list_any}
use Rattle.std.proofs.lemmas.Bool.{cases_order, cases_eq, cases_lt, or_parts, not-false, and_cases, eqb-true, eqb-false, eq-eqb, ne_eqb, ltb-true, ltb-false, lt-ltb, leb-false}
use Rattle.std.proofs.lemmas.Bool.Decides.{nat_tests}
use Rattle.std.proofs.lemmas.List.{length-take, length-take-le, take_all}
use Rattle.std.proofs.lemmas.List.Sums.{sum_by-append}
use Rattle.std.proofs.lemmas.Option.{slice_get_within, same_Some}
use Rattle.type_table.proofs.Elements.{take-suc_found, element_at}
use Rattle.line_text.specs.Rules.{Rules, count_at, was_read, end_rank, last_item}
use Rattle.line_text.specs.LineTests.{item_fault, is_late, lacks, is_full, is_single, is_needed, ascends, pair_below}
use Rattle.line_text.specs.Accepted.{IsAccepted, HasPassed, HavePassed, AreAt, HaveNoTwins, HaveRisingRanks, HasKeys, HaveRisingKeys, HaveSinglesOnce, HaveItemOf, HaveNeeded, KeepLimits, HaveOneEnd, HaveSinglesInFront, AreInOrder}
use Rattle.line_text.specs.declared.fault.FaultKind.{FaultKind}
use Rattle.line_text.specs.declared.fault.FaultKind.TheVariants.{OutOfOrder, Missing, OutOfRange}
use Rattle.line_text.specs.declared.section.Section.{Section}
use Rattle.line_text.proofs.Counts.{count_at_push}

-- ---- lists

-- a front has the elements of the list
slice_get-take : {X : Type 0} (n : ℕ) (xs : List X) (i : ℕ) → i < n → slice_get (take n xs) i ≡ slice_get xs i
slice_get-take zero xs i below = absurd (omega arith)
slice_get-take (suc n) [] i below = refl
slice_get-take (suc n) (x ∷ xs) zero below = refl
slice_get-take (suc n) (x ∷ xs) (suc i) below = slice_get-take n xs i (omega arith)

-- an element of a front is one of the list, before the front's end
from_front : {X : Type 0} (n : ℕ) (xs : List X) (i : ℕ) (x : X) → slice_get (take n xs) i ≡ Some x → (i < n) × (slice_get xs i ≡ Some x)
from_front n xs i x e =
    let below : i < n = omega (arith, slice_get_within (take n xs) i x e, length-take n xs) in
    (below, sym (slice_get-take n xs i below) ∙ e)

-- the last element of a front
last_item-take : {X : Type 0} (xs : List X) (n : ℕ) (x : X) → slice_get xs n ≡ Some x → last_item (take (suc n) xs) ≡ Some x
last_item-take xs n x e =
    let within = slice_get_within xs n x e in
    let len : length (take (suc n) xs) - 1 ≡ n = omega (arith, length-take-le (suc n) xs within) in
    rw len (slice_get-take (suc n) xs n (omega arith) ∙ e)

-- one place has one element
one_element : {X : Type 0} (xs : List X) (i j : ℕ) (x y : X) → i ≡ j → slice_get xs i ≡ Some x → slice_get xs j ≡ Some y → x ≡ y
one_element xs i j x y same e f = same_Some x y (sym e ∙ ap (slice_get xs) same ∙ f)

-- where no element passes, each fails
list_any_fails : {X : Type 0} (p : X → Bool) (xs : List X) (i : ℕ) (x : X) → list_any p xs ≡ false → slice_get xs i ≡ Some x → p x ≡ false
list_any_fails p [] i x none e = absurd cc
list_any_fails p (y ∷ xs) zero x none e = rw (← same_Some y x e) (or_parts (p y) (list_any p xs) none).0
list_any_fails p (y ∷ xs) (suc i) x none e = list_any_fails p xs i x (or_parts (p y) (list_any p xs) none).1 e

-- ---- what an item passed

-- the first test fails where no test holds
no_kind : (b : Bool) (kind : FaultKind) (next : Option FaultKind) → cond b (Some kind) next ≡ None → (b ≡ false) × (next ≡ None)
no_kind true kind next e = absurd cc
no_kind false kind next e = (refl, e)

-- an item without a fault has passed each test
pub HasPassed-from : {Item : Type 0} (g : Rules Item) (before : List Item) (x : Item) → item_fault g before x ≡ None → HasPassed g before x
unfolding item_fault
HasPassed-from g before x e =
    let late = no_kind (is_late g (last_item before) x) OutOfOrder _ e in
    let missing = no_kind (lacks g before (g.rank_of x) || g.misses before x) Missing _ late.1 in
    let ranged = no_kind (not (g.is_in_range before x) || is_full (slice_get g.sections (g.rank_of x)) (count_at g before (g.rank_of x))) OutOfRange _ missing.1 in
    let ordered = no_kind (not (ascends g (last_item before) x)) OutOfOrder _ ranged.1 in
    let twice = no_kind (list_any (g.is_twin x) before) (g.twin_fault x) None ordered.1 in
    let missed = or_parts (lacks g before (g.rank_of x)) (g.misses before x) missing.0 in
    let outside = or_parts (not (g.is_in_range before x)) (is_full (slice_get g.sections (g.rank_of x)) (count_at g before (g.rank_of x))) ranged.0 in
    record {
      in_order = late.0;
      lacks_none = missed.0;
      misses_none = missed.1;
      in_range = not-false (g.is_in_range before x) outside.0;
      has_room = outside.1;
      ascending = not-false (ascends g (last_item before) x) ordered.0;
      no_twin = twice.0;
    }

-- ---- counts

-- the count with one more in front
count_at-cons : {Item : Type 0} (g : Rules Item) (x : Item) (items : List Item) (rank : ℕ) → count_at g (x ∷ items) rank ≡ cond (eqb (g.rank_of x) rank) 1 0 + count_at g items rank
count_at-cons g x items rank = omega (arith, sum_by-append (λ y. cond (eqb (g.rank_of y) rank) 1 0) (x ∷ []) items)

-- a rank with a count has an item
HaveItemOf-from_count : {Item : Type 0} (g : Rules Item) (items : List Item) (rank : ℕ) → 0 < count_at g items rank → HaveItemOf g items rank
HaveItemOf-from_count g [] rank some = absurd (omega arith)
HaveItemOf-from_count g (x ∷ items) rank some = go (eqb (g.rank_of x) rank) refl (λ rest. HaveItemOf-from_count g items rank rest)
  where
    go : (b : Bool) → eqb (g.rank_of x) rank ≡ b → (0 < count_at g items rank → HaveItemOf g items rank) → HaveItemOf g (x ∷ items) rank
    go true e rest = record { place = 0; item = x; at = refl; ranked = eqb-true (g.rank_of x) rank e }
    go false e rest =
        let counted : count_at g (x ∷ items) rank ≡ count_at g items rank = count_at-cons g x items rank ∙ rw e (omega arith) in
        let s = rest (omega arith) in
        record { place = suc s.place; item = s.item; at = s.at; ranked = s.ranked }

-- a rank that was read has an item
HaveItemOf-from_read : {Item : Type 0} (g : Rules Item) (items : List Item) (rank : ℕ) → was_read g items rank ≡ true → HaveItemOf g items rank
HaveItemOf-from_read g items rank e = HaveItemOf-from_count g items rank (ltb-true 0 (count_at g items rank) e)

-- a rank with an item has a count
pub count_from_at : {Item : Type 0} (g : Rules Item) (items : List Item) (rank n : ℕ) (x : Item) → slice_get items n ≡ Some x → g.rank_of x ≡ rank → 0 < count_at g items rank
count_from_at g [] rank n x e is = absurd cc
count_from_at g (y ∷ items) rank zero x e is =
    let ranked : eqb (g.rank_of y) rank ≡ true = eq-eqb (g.rank_of y) rank (ap (λ z. g.rank_of z) (same_Some y x e) ∙ is) in
    rw (count_at-cons g y items rank, ranked) (omega arith)
count_from_at g (y ∷ items) rank (suc n) x e is = rw (count_at-cons g y items rank) (omega (arith, count_from_at g items rank n x e is))

-- a rank with an item was read
read_from_at : {Item : Type 0} (g : Rules Item) (items : List Item) (rank n : ℕ) (x : Item) → slice_get items n ≡ Some x → g.rank_of x ≡ rank → was_read g items rank ≡ true
read_from_at g items rank n x e is = lt-ltb 0 (count_at g items rank) (count_from_at g items rank n x e is)

-- nothing that is lacking: a needed section of a lower rank was read
read_from_lacks : {Item : Type 0} (g : Rules Item) (before : List Item) (n rank : ℕ) → lacks g before n ≡ false → rank < n → is_needed (slice_get g.sections rank) ≡ true → was_read g before rank ≡ true
read_from_lacks g before zero rank none below need = absurd (omega arith)
read_from_lacks g before (suc n) rank none below need =
    let parts = or_parts (lacks g before n) (is_needed (slice_get g.sections n) && not (was_read g before n)) none in
    elim (cases_eq rank n) [
      | inl e ↦ rw e (needed_read (is_needed (slice_get g.sections n)) (was_read g before n) parts.1 (rw e at need))
      | inr e ↦ read_from_lacks g before n rank parts.0 (omega arith) need
    ]
  where
    needed_read : (a b : Bool) → (a && not b) ≡ false → a ≡ true → b ≡ true
    needed_read true true h t = refl
    needed_read true false h t = absurd cc
    needed_read false b h t = absurd cc

-- ---- two items side by side

-- test 7 on numbers
abbrev not_late : ℕ → ℕ → Bool → Bool
not_late rank last single = ltb rank last || (eqb rank last && single)

-- after an item comes one of no lower rank, and of a higher one where the section is single
ranks_beside : (rank last : ℕ) (single : Bool) → not_late rank last single ≡ false → (last ≤ rank) × (single ≡ true → last < rank)
ranks_beside rank last single e =
    let parts = or_parts (ltb rank last) (eqb rank last && single) e in
    let le : last ≤ rank = ltb-false rank last parts.0 in (
      le,
      λ t. elim (and_cases (eqb rank last) single parts.1) [
        | inl differ ↦ let ne : rank ≢ last = eqb-false rank last differ in omega arith
        | inr f ↦ absurd (let clash : true ≡ false = sym t ∙ f in cc)
      ],
    )

-- an order by pairs goes on
pair_below_trans : (a b c : ℕ × ℕ) → pair_below a b ≡ true → pair_below b c ≡ true → pair_below a c ≡ true
pair_below_trans a b c e f = go a.0 a.1 b.0 b.1 c.0 c.1 e f
  where
    go : (i j k l m n : ℕ) → (ltb i k || (eqb i k && ltb j l)) ≡ true → (ltb k m || (eqb k m && ltb l n)) ≡ true → (ltb i m || (eqb i m && ltb j n)) ≡ true
    go i j k l m n e f = grind (arith, nat_tests)

-- ---- accepted items

module _ {Item : Type 0} (g : Rules Item) (items : List Item) (h : IsAccepted g items) where
  have_passed : HavePassed g items
  have_passed n x e = HasPassed-from g (take n items) x (h.each n x e)

  -- no two are twins
  have_no_twins : HaveNoTwins g items
  have_no_twins i j x y below at = list_any_fails (g.is_twin y) (take j items) i x (have_passed j y at.second).no_twin (slice_get-take j items i below ∙ at.first)

  -- side by side
  beside : (n : ℕ) (x y : Item) → slice_get items n ≡ Some x → slice_get items (suc n) ≡ Some y → (g.rank_of x ≤ g.rank_of y) × (is_single (slice_get g.sections (g.rank_of y)) ≡ true → g.rank_of x < g.rank_of y)
  beside n x y e f =
      let late : is_late g (Some x) y ≡ false = ap (λ (o : Option Item). is_late g o y) (sym (last_item-take items n x e)) ∙ (have_passed (suc n) y f).in_order in
      ranks_beside (g.rank_of y) (g.rank_of x) (is_single (slice_get g.sections (g.rank_of y))) late

  -- ranks rise along any stretch
  rising : (d i : ℕ) (x y : Item) → slice_get items i ≡ Some x → slice_get items (d + i) ≡ Some y → g.rank_of x ≤ g.rank_of y
  rising zero i x y e f = let same : x ≡ y = one_element items i (0 + i) x y (omega arith) e f in rw same (omega arith)
  rising (suc d) i x y e f =
      let next : slice_get items (suc (d + i)) ≡ Some y = ap (slice_get items) (omega arith) ∙ f in
      let z = element_at items (d + i) (omega (arith, slice_get_within items (suc (d + i)) y next)) in
      omega (arith, rising d i x z.0 e z.1, (beside (d + i) z.0 y z.1 next).0)

  -- ranks never fall
  have_rising_ranks : HaveRisingRanks g items
  have_rising_ranks i j x y le at = rising (j - i) i x y at.first (ap (slice_get items) (omega arith) ∙ at.second)

  -- the keys of two side by side rise
  keys_beside : (n : ℕ) (x y : Item) (a b : ℕ × ℕ) → slice_get items n ≡ Some x → slice_get items (suc n) ≡ Some y → g.rank_of x ≡ g.rank_of y → g.key_of x ≡ Some a → g.key_of y ≡ Some b → pair_below a b ≡ true
  keys_beside n x y a b e f same k l =
      let ascending : ascends g (Some x) y ≡ true = ap (λ (o : Option Item). ascends g o y) (sym (last_item-take items n x e)) ∙ (have_passed (suc n) y f).ascending in
      let ranked : eqb (g.rank_of y) (g.rank_of x) ≡ true = eq-eqb (g.rank_of y) (g.rank_of x) (sym same) in
      rw (ranked, k, l) at ascending

  -- keys rise along any stretch of one rank
  rising_keys : (rank : ℕ) → HasKeys g rank → (d i : ℕ) (x y : Item) (a b : ℕ × ℕ) → slice_get items i ≡ Some x → slice_get items (suc (d + i)) ≡ Some y → g.rank_of x ≡ rank → g.rank_of y ≡ rank → g.key_of x ≡ Some a → g.key_of y ≡ Some b → pair_below a b ≡ true
  rising_keys rank keys zero i x y a b e f p q k l = keys_beside i x y a b e (ap (slice_get items) (omega arith) ∙ f) (p ∙ sym q) k l
  rising_keys rank keys (suc d) i x y a b e f p q k l =
      let next : slice_get items (suc (suc (d + i))) ≡ Some y = ap (slice_get items) (omega arith) ∙ f in
      let z = element_at items (suc (d + i)) (omega (arith, slice_get_within items (suc (suc (d + i))) y next)) in
      let up = rising (suc d) i x z.0 e (ap (slice_get items) (omega arith) ∙ z.1) in
      let down = (beside (suc (d + i)) z.0 y z.1 next).0 in
      let r : g.rank_of z.0 ≡ rank = omega arith in
      let c = some_value (g.key_of z.0) (keys z.0 r) in
      pair_below_trans a c.0 b (rising_keys rank keys d i x z.0 a c.0 e z.1 p r k c.1) (keys_beside (suc (d + i)) z.0 y c.0 b z.1 next (r ∙ sym q) c.1 l)
    where
      some_value : {X : Type 0} (o : Option X) → IsSome o → (x : X) × (o ≡ Some x)
      some_value None s = absurd cc
      some_value (Some x) s = (x, refl)

  -- keys rise within a section
  have_rising_keys : HaveRisingKeys g items
  have_rising_keys rank i j x y a b keys below at p q k l = rising_keys rank keys (j - i - 1) i x y a b at.first (ap (slice_get items) (omega arith) ∙ at.second) p q k l

  -- after an item of a single section comes none of its rank
  single_before : (i j : ℕ) (x y : Item) → i < j → AreAt items i j x y → g.rank_of x ≡ g.rank_of y → is_single (slice_get g.sections (g.rank_of y)) ≡ true → ⊥
  single_before i zero x y below at same one = absurd (omega arith)
  single_before i (suc j) x y below at same one =
      let z = element_at items j (omega (arith, slice_get_within items (suc j) y at.second)) in
      let up = have_rising_ranks i j x z.0 (omega arith) (record { first = at.first; second = z.1 }) in
      let step = (beside j z.0 y z.1 at.second).1 one in
      omega arith

  -- a single section has at most one item
  have_singles_once : HaveSinglesOnce g items
  have_singles_once i j x y at same one =
      elim (cases_order i j) [
        | inl e ↦ e
        | inr (inl below) ↦ absurd (single_before i j x y below at same (rw same at one))
        | inr (inr above) ↦ absurd (single_before j i y x above (record { first = at.second; second = at.first }) (sym same) one)
      ]

  -- `end` is there
  the_end : HaveItemOf g items (end_rank g)
  the_end = HaveItemOf-from_read g items (end_rank g) h.has_ended

  -- each section that must be there is there
  have_needed : HaveNeeded g items
  have_needed = record {
    each = λ rank below need.
        let passed = have_passed the_end.place the_end.item the_end.at in
        let is_read = read_from_lacks g (take the_end.place items) (g.rank_of the_end.item) rank passed.lacks_none (omega (arith, the_end.ranked)) need in
        let s = HaveItemOf-from_read g (take the_end.place items) rank is_read in
        record { place = s.place; item = s.item; at = (from_front the_end.place items s.place s.item s.at).1; ranked = s.ranked };
    end = the_end;
  }

  -- a section that has room takes one more
  limit_kept : (n rank most : ℕ) (s : Section) → slice_get g.sections rank ≡ Some s → s.most ≡ Some most → n ≤ length items → count_at g (take n items) rank ≤ most
  limit_kept zero rank most s e m within = omega arith
  limit_kept (suc n) rank most s e m within =
      let x = element_at items n (omega arith) in
      let before = limit_kept n rank most s e m (omega arith) in
      let counted : count_at g (take (suc n) items) rank ≡ count_at g (take n items) rank + cond (eqb (g.rank_of x.0) rank) 1 0 = ap (λ xs. count_at g xs rank) (take-suc_found items n x.0 x.1) ∙ count_at_push g (take n items) x.0 rank in
      elim (cases_eq (g.rank_of x.0) rank) [
        | inl is ↦
            let room : is_full (slice_get g.sections rank) (count_at g (take n items) rank) ≡ false = rw is at (have_passed n x.0 x.1).has_room in
            let open_room : leb most (count_at g (take n items) rank) ≡ false = rw (e, m) at room in
            let one : ◌≡◌ {A = ℕ} (cond (eqb (g.rank_of x.0) rank) 1 0) 1 = rw (eq-eqb (g.rank_of x.0) rank is) refl in
            omega (arith, leb-false most (count_at g (take n items) rank) open_room)
        | inr differs ↦
            let none : ◌≡◌ {A = ℕ} (cond (eqb (g.rank_of x.0) rank) 1 0) 0 = rw (ne_eqb (g.rank_of x.0) rank differs) refl in
            omega arith
      ]

  -- no section has too many items
  keep_limits : KeepLimits g items
  keep_limits rank most s e m = rw (← take_all (length items) items (omega arith)) (limit_kept (length items) rank most s e m (omega arith))

  -- an `end` is the last
  end_last : (n : ℕ) (x : Item) → slice_get items n ≡ Some x → g.rank_of x ≡ end_rank g → n + 1 ≡ length items
  end_last n x e is =
      let within = slice_get_within items n x e in
      elim (cases_lt (suc n) (length items)) [
        | inl more ↦ absurd (
            let is_read = read_from_at g (take (suc n) items) (end_rank g) n x (slice_get-take (suc n) items n (omega arith) ∙ e) is in
            let clash : true ≡ false = sym is_read ∙ h.before_end (suc n) more in cc)
        | inr last ↦ omega arith
      ]

  -- the last item alone is `end`
  have_one_end : HaveOneEnd g items
  have_one_end n x e = (
    end_last n x e,
    λ last.
        let place : the_end.place ≡ n = omega (arith, end_last the_end.place the_end.item the_end.at the_end.ranked) in
        let same : the_end.item ≡ x = one_element items the_end.place n the_end.item x place the_end.at e in
        ap (λ z. g.rank_of z) (sym same) ∙ the_end.ranked,
  )

  -- leading single sections are at their ranks
  have_singles_in_front : HaveSinglesInFront g items
  have_singles_in_front zero below ones =
      let x = element_at items 0 (omega (arith, slice_get_within items the_end.place the_end.item the_end.at)) in (
        x.0,
        x.1,
        elim (cases_eq (g.rank_of x.0) 0) [
          | inl e ↦ e
          | inr e ↦ absurd (
              let is_read : was_read g [] 0 ≡ true = read_from_lacks g [] (g.rank_of x.0) 0 (have_passed 0 x.0 x.1).lacks_none (omega arith) (ones 0 (omega arith)).1 in
              let clash : false ≡ true = is_read in cc)
        ],
      )
  have_singles_in_front (suc rank) below ones =
      let z = have_singles_in_front rank (omega arith) (λ k le. ones k (omega arith)) in
      let more : suc rank < length items = elim (cases_eq (rank + 1) (length items)) [
        | inl last ↦ absurd (let is_end = (have_one_end rank z.0 z.1).1 last in let r = z.2 in omega arith)
        | inr not_last ↦ omega (arith, slice_get_within items rank z.0 z.1)
      ] in
      let x = element_at items (suc rank) more in
      let at_least = (beside rank z.0 x.0 z.1 x.1).0 in
      let above : rank < g.rank_of x.0 = elim (cases_eq (g.rank_of x.0) rank) [
        | inl e ↦ absurd (let step = (beside rank z.0 x.0 z.1 x.1).1 (rw (← e) at (ones rank (omega arith)).0) in omega (arith, z.2))
        | inr e ↦ omega (arith, z.2)
      ] in (
        x.0,
        x.1,
        elim (cases_eq (g.rank_of x.0) (suc rank)) [
          | inl e ↦ e
          | inr e ↦ absurd (
              let is_read = read_from_lacks g (take (suc rank) items) (g.rank_of x.0) (suc rank) (have_passed (suc rank) x.0 x.1).lacks_none (omega arith) (ones (suc rank) (omega arith)).1 in
              let s = HaveItemOf-from_read g (take (suc rank) items) (suc rank) is_read in
              let here = from_front (suc rank) items s.place s.item s.at in
              let up = have_rising_ranks s.place rank s.item z.0 (omega (arith, here.0)) (record { first = here.1; second = z.1 }) in
              omega (arith, z.2, s.ranked))
        ],
      )

  -- all of it
  pub AreInOrder-from : AreInOrder g items
  AreInOrder-from = record {
    passed = have_passed;
    no_twins = have_no_twins;
    rising_ranks = have_rising_ranks;
    rising_keys = have_rising_keys;
    singles_once = have_singles_once;
    needed = have_needed;
    limits = keep_limits;
    one_end = have_one_end;
    singles_in_front = have_singles_in_front;
  }
