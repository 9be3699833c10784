-- Facts of lists of anything: of each element, of what is at a place, of what a search finds and of what a filter keeps; and of tests of numbers and of the bits of words.
use Rattle.std.proofs.Common.{◌≡◌, ◌≢◌, ℕ, zero, suc, ◌+◌, ◌<◌, ◌≤◌, ◌==◌, Bool, true, false, not, cond, eqb, ◌⊎◌, List, [], ◌∷◌, ◌++◌, map, filter, length, set, take, drop, get_or, All, Some, None, slice_get, bit_and, refl, sym, ap, subst, ◌∙◌, inl, inr, zero-add, arith}
use Rattle.std.specs.Cmp.{both_ways}
use Rattle.std.specs.Int.{bit_at}
use Rattle.std.specs.List.{AllByRecursion, find, list_any, position, position_or_len, range_with_len}
use Rattle.std.proofs.lemmas.Bool.{cases_Bool, cases_lt, eqb-true, eq-eqb}
use Rattle.std.proofs.lemmas.Bool.Decides.{nat_tests}
use Rattle.std.proofs.lemmas.List.{length-map, map-id, take_more, drop_more, get_or-drop}
use Rattle.std.proofs.lemmas.List.Elements.{All-head, All-tail}
use Rattle.std.proofs.lemmas.List.FromFn.{map-range_with_len_more}
use Rattle.std.proofs.lemmas.List.Sums.{count_by-le-length, length-filter}
use Rattle.std.proofs.lemmas.Nat.Bits.{bit_at_and, bit_at-zero}
use Rattle.std.proofs.lemmas.Option.{none-some, same_Some, get_or_from_slice_get, slice_get_within}

-- ---- each element

-- a fact of each element gives another
pub each-weaker : {E : Type 0} {P Q : E → Type 0} → ((x : E) → P x → Q x) → (V : List E) → AllByRecursion P V → AllByRecursion Q V
each-weaker leads [] p = tt
each-weaker leads (x ∷ V) p = (leads x p.0, each-weaker leads V p.1)

-- two facts of each element give a third
pub each-both : {E : Type 0} {P Q S : E → Type 0} → ((x : E) → P x → Q x → S x) → (V : List E) → AllByRecursion P V → AllByRecursion Q V → AllByRecursion S V
each-both leads [] p q = tt
each-both leads (x ∷ V) p q = (leads x p.0 q.0, each-both leads V p.1 q.1)

-- what holds of each element of two lists holds of each of the two, one after the other
pub each-append : {E : Type 0} (P : E → Type 0) (V W : List E) → AllByRecursion P V → AllByRecursion P W → AllByRecursion P (V ++ W)
each-append P [] W p q = q
each-append P (x ∷ V) W p q = (p.0, each-append P V W p.1 q)

-- and of a list with one more
pub each-push : {E : Type 0} (P : E → Type 0) (V : List E) (e : E) → AllByRecursion P V → P e → AllByRecursion P (V ++ (e ∷ []))
each-push P [] e p here = (here, tt)
each-push P (x ∷ V) e p here = (p.0, each-push P V e p.1 here)

-- what holds of what a function makes of each element holds of each that it makes
pub each-map : {A B : Type 0} (P : B → Type 0) (f : A → B) (V : List A) → AllByRecursion (λ a. P (f a)) V → AllByRecursion P (map f V)
each-map P f [] p = tt
each-map P f (a ∷ V) p = (p.0, each-map P f V p.1)

-- what holds of each element that passes a test holds of each that a filter keeps
pub each-passes : {E : Type 0} (P : E → Type 0) (test : E → Bool) (V : List E) → AllByRecursion (λ x. test x ≡ true → P x) V → AllByRecursion P (filter test V)
each-passes P test [] p = tt
each-passes P test (x ∷ V) p =
    elim (cases_Bool (test x)) [
      | inl passes ↦ rw passes (p.0 passes, each-passes P test V p.1)
      | inr fails ↦ rw fails (each-passes P test V p.1)
    ]

-- what holds of each element holds of each that a filter keeps
pub each-filter : {E : Type 0} (P : E → Type 0) (test : E → Bool) (V : List E) → AllByRecursion P V → AllByRecursion P (filter test V)
each-filter P test V p = each-passes P test V (each-weaker (λ x here _. here) V p)

-- and of each of the first ones
pub each-take : {E : Type 0} (P : E → Type 0) (n : ℕ) (V : List E) → AllByRecursion P V → AllByRecursion P (take n V)
each-take P zero V p = tt
each-take P (suc n) [] p = tt
each-take P (suc n) (x ∷ V) p = (p.0, each-take P n V p.1)

-- and of one that is found at a place
pub each-found : {E : Type 0} (P : E → Type 0) (V : List E) (i : ℕ) (x : E) → AllByRecursion P V → slice_get V i ≡ Some x → P x
each-found P [] i x p there = absurd (none-some x there)
each-found P (y ∷ V) zero x p there = subst P (same_Some y x there) p.0
each-found P (y ∷ V) (suc i) x p there = each-found P V i x p.1 there

-- and what holds of what is found at each place holds of each element
pub each-places : {E : Type 0} (P : E → Type 0) (V : List E) → ((i : ℕ) (x : E) → slice_get V i ≡ Some x → P x) → AllByRecursion P V
each-places P [] at = tt
each-places P (x ∷ V) at = (at 0 x refl, each-places P V (λ i y there. at (suc i) y there))

-- ---- what is at a place

-- a place below the length has an element
pub element_at : {E : Type 0} (V : List E) (i : ℕ) → i < length V → (x : E) × (slice_get V i ≡ Some x)
element_at [] i less = absurd (omega (arith, less))
element_at (x ∷ V) zero less = (x, refl)
element_at (x ∷ V) (suc i) less = element_at V i (omega (arith, less))

-- what is found is found with more after it
pub found-front : {E : Type 0} (V W : List E) (i : ℕ) (x : E) → slice_get V i ≡ Some x → slice_get (V ++ W) i ≡ Some x
found-front [] W i x there = absurd (none-some x there)
found-front (y ∷ V) W zero x there = there
found-front (y ∷ V) W (suc i) x there = found-front V W i x there

-- and at a place inside a list there is the same with more after it
pub slice_get-front : {E : Type 0} (V W : List E) (i : ℕ) → i < length V → slice_get (V ++ W) i ≡ slice_get V i
slice_get-front [] W i inside = absurd (omega (arith, inside))
slice_get-front (x ∷ V) W zero inside = refl
slice_get-front (x ∷ V) W (suc i) inside = slice_get-front V W i (omega (arith, inside))

-- one more is found last
pub found-last : {E : Type 0} (V : List E) (last : E) → slice_get (V ++ last ∷ []) (length V) ≡ Some last
found-last [] last = refl
found-last (x ∷ V) last = found-last V last

-- what is found with one more was found before, or is that one
pub cases-more : {E : Type 0} (V : List E) (last : E) (i : ℕ) (y : E) → slice_get (V ++ last ∷ []) i ≡ Some y → (slice_get V i ≡ Some y) ⊎ ((i ≡ length V) × (last ≡ y))
cases-more [] last zero y there = inr (refl, same_Some last y there)
cases-more [] last (suc i) y there = absurd (none-some y there)
cases-more (x ∷ V) last zero y there = inl there
cases-more (x ∷ V) last (suc i) y there =
    elim (cases-more V last i y there) [
      | inl old ↦ inl old
      | inr new ↦ inr (ap (λ n. suc n) new.0, new.1)
    ]

-- what was written at a place is found there
pub found-set : {E : Type 0} (V : List E) (i : ℕ) (x : E) → i < length V → slice_get (set V i x) i ≡ Some x
found-set [] i x inside = absurd (omega (arith, inside))
found-set (y ∷ V) zero x inside = refl
found-set (y ∷ V) (suc i) x inside = found-set V i x (omega (arith, inside))

-- what was written at another place changes nothing
pub found-set_other : {E : Type 0} (V : List E) (i j : ℕ) (x : E) → j ≢ i → slice_get (set V i x) j ≡ slice_get V j
found-set_other [] i j x other = refl
found-set_other (y ∷ V) zero zero x other = absurd (other refl)
found-set_other (y ∷ V) zero (suc j) x other = refl
found-set_other (y ∷ V) (suc i) zero x other = refl
found-set_other (y ∷ V) (suc i) (suc j) x other = found-set_other V i j x (λ same. other (ap suc same))

-- what is found where x was written at a place is x, or was found at another place before
pub cases-set : {E : Type 0} (V : List E) (i : ℕ) (x : E) (j : ℕ) (y : E) → slice_get (set V i x) j ≡ Some y →
    ((j ≡ i) × (x ≡ y)) ⊎ (((j == i) ≡ false) × (slice_get V j ≡ Some y))
cases-set [] i x j y there = absurd (none-some y there)
cases-set (z ∷ V) zero x zero y there = inl (refl, same_Some x y there)
cases-set (z ∷ V) zero x (suc j) y there = inr (grind (arith, nat_tests), there)
cases-set (z ∷ V) (suc i) x zero y there = inr (grind (arith, nat_tests), there)
cases-set (z ∷ V) (suc i) x (suc j) y there =
    elim (cases-set V i x j y there) [
      | inl here ↦ inl (ap (λ n. suc n) here.0, here.1)
      | inr elsewhere ↦ inr (let apart = elsewhere.0 in grind (arith, nat_tests, apart), elsewhere.1)
    ]

-- what is found in the list of what f makes of each is what it makes of the element there
pub found-map : {A B : Type 0} (f : A → B) (V : List A) (i : ℕ) (b : B) → slice_get (map f V) i ≡ Some b → (a : A) × (slice_get V i ≡ Some a) × (f a ≡ b)
found-map f [] i b there = absurd (none-some b there)
found-map f (a ∷ V) zero b there = (a, refl, same_Some (f a) b there)
found-map f (a ∷ V) (suc i) b there = found-map f V i b there

-- where two lists are one from a place on, what is read there in the one is what is in the other
pub same_there : {E : Type 0} (old new : List E) (i : ℕ) (x : E) → drop i new ≡ drop i old → x ≡ get_or new i x → x ≡ get_or old i x
same_there old new i x rest read =
    let at : i + 0 ≡ i = omega arith in
    read ∙ sym (ap (λ n. get_or new n x) at) ∙ sym (get_or-drop i new 0 x) ∙ ap (λ xs. get_or xs 0 x) rest ∙ get_or-drop i old 0 x ∙ ap (λ n. get_or old n x) at

-- so it is the first of what is left
pub next_there : {E : Type 0} (old new : List E) (i : ℕ) (x : E) → drop i new ≡ drop i old → i < length old → x ≡ get_or new i x → drop i old ≡ x ∷ drop (i + 1) old
next_there old new i x rest within read = drop_more old i x within ∙ ap (λ y. y ∷ drop (i + 1) old) (sym (same_there old new i x rest read))

-- and what holds of each element holds of it
pub each_there : {E : Type 0} (P : E → Type 0) (old new : List E) (i : ℕ) (x : E) → All P old → drop i new ≡ drop i old → i < length old → x ≡ get_or new i x → P x
each_there P old new i x all rest within read = subst P (sym (same_there old new i x rest read)) (all i x within)

-- the first elements, up to the one at a place
pub take-found : {E : Type 0} (V : List E) (i : ℕ) (x : E) → slice_get V i ≡ Some x → take (i + 1) V ≡ take i V ++ x ∷ []
take-found V i x there = take_more V i x (slice_get_within V i x there) ∙ ap (λ y. take i V ++ y ∷ []) (get_or_from_slice_get V i x x there)

-- the same, with the number as an induction has it
pub take-suc_found : {E : Type 0} (V : List E) (i : ℕ) (x : E) → slice_get V i ≡ Some x → take (suc i) V ≡ take i V ++ x ∷ []
take-suc_found [] i x there = absurd (none-some x there)
take-suc_found (y ∷ V) zero x there = ap (λ z. z ∷ []) (same_Some y x there)
take-suc_found (y ∷ V) (suc i) x there = ap (λ rest. y ∷ rest) (take-suc_found V i x there)

-- what holds at each of the first places
abbrev pub FirstAre : {E : Type 0} → (E → Type 0) → List E → ℕ → Type 0
FirstAre {E} P V n = (i : ℕ) (x : E) → i < n → slice_get V i ≡ Some x → P x

-- and at one place more
pub first-more : {E : Type 0} (P : E → Type 0) (V : List E) (n : ℕ) (x : E) → FirstAre P V n → slice_get V n ≡ Some x → P x → FirstAre P V (n + 1)
first-more P V n x before is holds i y low there =
    elim (cases_lt i n) [
      | inl below ↦ before i y below there
      | inr past ↦
          let same : i ≡ n = omega (arith, low, past) in
          subst P (same_Some x y (sym is ∙ subst (λ j. slice_get V j ≡ Some y) same there)) holds
    ]

-- one number more
pub range-more : (n : ℕ) → range_with_len 0 (n + 1) ≡ range_with_len 0 n ++ n ∷ []
range-more n =
    sym (map-id (range_with_len 0 (n + 1))) ∙ map-range_with_len_more (λ x. x) 0 n n (zero-add n) ∙ ap (λ l. l ++ n ∷ []) (map-id (range_with_len 0 n))

-- a test of what f makes of each element fails as often before the first that passes
position_or_len-map : {A B : Type 0} (p : B → Bool) (f : A → B) (V : List A) → position_or_len p (map f V) ≡ position_or_len (λ a. p (f a)) V
position_or_len-map p f [] = refl
position_or_len-map p f (a ∷ V) = ap (λ n. cond (not (p (f a))) (1 + n) 0) (position_or_len-map p f V)

-- so a search through what f makes of each is a search through the list
pub position-map : {A B : Type 0} (p : B → Bool) (f : A → B) (V : List A) → position p (map f V) ≡ position (λ a. p (f a)) V
position-map p f V = rw (position_or_len-map p f V, length-map V f) refl

-- where no element passes, none is found
pub find_none : {E : Type 0} (test : E → Bool) (V : List E) → All (λ x. test x ≡ false) V → find test V ≡ None
find_none test [] none = refl
find_none test (x ∷ V) none = rw (All-head (λ y. test y ≡ false) x V none) (find_none test V (All-tail (λ y. test y ≡ false) x V none))

-- and none is there
pub none_any : {E : Type 0} (V : List E) → list_any (λ (x : E). false) V ≡ false
none_any [] = refl
none_any (x ∷ V) = none_any V

-- tests that agree on each element find the same
pub find_same : {E : Type 0} (first second : E → Bool) (V : List E) → AllByRecursion (λ x. first x ≡ second x) V → find first V ≡ find second V
find_same first second [] same = refl
find_same first second (x ∷ V) same =
    elim (cases_Bool (second x)) [
      | inl passes ↦ rw (same.0, passes) refl
      | inr fails ↦ rw (same.0, fails) (find_same first second V same.1)
    ]

-- ---- what a filter keeps

-- no more than there is
pub filter-length : {E : Type 0} (test : E → Bool) (V : List E) → length (filter test V) ≤ length V
filter-length test V = let counted = count_by-le-length test V in omega (arith, length-filter test V, counted)

-- nothing, where none passes
pub filter-none : {E : Type 0} (test : E → Bool) (V : List E) → AllByRecursion (λ x. test x ≡ false) V → filter test V ≡ []
filter-none test [] each = refl
filter-none test (x ∷ V) each = rw (each.0) (filter-none test V each.1)

-- all, where each passes
pub filter-all : {E : Type 0} (test : E → Bool) (V : List E) → AllByRecursion (λ x. test x ≡ true) V → filter test V ≡ V
filter-all test [] each = refl
filter-all test (x ∷ V) each = rw (each.0) (ap (λ rest. x ∷ rest) (filter-all test V each.1))

-- all of mine, in a part that has all of mine
pub mine-within : {E : Type 0} (test mine : E → Bool) (V : List E) → ((e : E) → mine e ≡ true → test e ≡ true) → filter mine (filter test V) ≡ filter mine V
mine-within test mine [] within = refl
mine-within test mine (e ∷ V) within =
    elim (cases_Bool (mine e)) [
      | inl is ↦ simp (is, within e is) (ap (λ rest. e ∷ rest) (mine-within test mine V within))
      | inr isnt ↦ elim (cases_Bool (test e)) [
        | inl passes ↦ simp (passes, isnt) (mine-within test mine V within)
        | inr fails ↦ simp (fails, isnt) (mine-within test mine V within)
      ]
    ]

-- the same after another filter as before it
pub filter-turned : {E : Type 0} (first second : E → Bool) (V : List E) → filter first (filter second V) ≡ filter second (filter first V)
filter-turned first second [] = refl
filter-turned first second (e ∷ V) =
    elim (cases_Bool (first e)) [
      | inl passes ↦ elim (cases_Bool (second e)) [
        | inl both ↦ simp (passes, both) (ap (λ rest. e ∷ rest) (filter-turned first second V))
        | inr fails ↦ simp (passes, fails) (filter-turned first second V)
      ]
      | inr fails ↦ elim (cases_Bool (second e)) [
        | inl other ↦ simp (fails, other) (filter-turned first second V)
        | inr neither ↦ simp (fails, neither) (filter-turned first second V)
      ]
    ]

-- ---- tests of numbers

-- two numbers are equal in either order
pub eqb-sym : (a b : ℕ) → (a == b) ≡ (b == a)
eqb-sym a b = both_ways (a == b) (b == a) (λ is. eq-eqb b a (sym (eqb-true a b is))) (λ is. eq-eqb a b (sym (eqb-true b a is)))

-- so they differ in either order
pub differ_turned : (a t : ℕ) → eqb t a ≡ false → eqb a t ≡ false
differ_turned a t other = eqb-sym a t ∙ other

-- ---- bits of words

-- what is in one of two words that have no bit in common isn't in the other
pub bits_apart : (row word k : ℕ) → bit_and row word ≡ 0 → bit_at word k ≡ 1 → bit_at row k ≡ 0
bits_apart row word k apart marked =
    let e = sym (bit_at_and row word k) ∙ ap (λ n. bit_at n k) apart ∙ bit_at-zero k in omega (arith, e, marked)
