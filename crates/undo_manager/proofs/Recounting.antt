-- Lists of counts after a change of one transaction's count.
use Rattle.std.proofs.Common.{◌≡◌, ◌<◌, ◌≤◌, ◌+◌, ◌-◌, ℕ, zero, suc, true, false, eqb, cond, List, [], ◌∷◌, ◌++◌, map, length, get_or, set, drop, swap_remove, sum_by, refl, sym, ap, ◌∙◌, inl, inr, arith}
use Rattle.std.specs.List.{AllByRecursion}
use Rattle.std.proofs.lemmas.Bool.{cases_Bool, eqb-true, eq-eqb}
use Rattle.std.proofs.lemmas.List.{get_or_read, drop_more}
use Rattle.std.proofs.lemmas.List.Elements.{All-from_recursion, recursion_from_All, All-set}
use Rattle.std.proofs.lemmas.List.Sums.{sum_by-cons, sum_by-swap_remove}
use Rattle.type_table.proofs.Elements.{each-push, each-take, differ_turned}
use Rattle.object_trait.specs.Orders.{Pairs}
use Rattle.object_trait.proofs.Lists.{pairs-push}
use Rattle.undo_manager.specs.Opened.{count_of, AreListedOnce, IsRecounted, IsPlaceOf}
use Rattle.undo_manager.specs.declared.opened.Opened.{Opened}

-- b is of another transaction than a
abbrev IsApart : Opened → Opened → Type 0
IsApart a b = eqb b.by a.by ≡ false

-- ---- one more transaction

-- the first count of a transaction
abbrev pub one_of : ℕ → Opened
one_of t = record { by = t; count = 1 }

-- where t's count is 0, each line is of another one
unlisted : (t : ℕ) (counts : List Opened) → AllByRecursion (λ o. 0 < o.count) counts → count_of t counts ≡ 0 → AllByRecursion (λ o. eqb t o.by ≡ false) counts
unlisted t [] some none = tt
unlisted t (o ∷ counts) some none =
    elim (cases_Bool (eqb o.by t)) [
      | inl is ↦
          let here : o.count ≡ 0 = rw is at none in
          let more : 0 < o.count = some.0 in
          absurd (omega arith)
      | inr isnt ↦ (differ_turned t o.by isnt, unlisted t counts some.1 (rw isnt at none))
    ]

-- its own count is that of its line
pushed-mine : (t : ℕ) (counts : List Opened) → count_of t counts ≡ 0 → AllByRecursion (λ o. eqb t o.by ≡ false) counts → count_of t (counts ++ one_of t ∷ []) ≡ 1
pushed-mine t [] none apart = rw (eq-eqb t t refl) refl
pushed-mine t (o ∷ counts) none apart =
    let isnt = differ_turned o.by t apart.0 in
    rw isnt (pushed-mine t counts (rw isnt at none) apart.1)

-- each other one's is as it was
pushed-others : (t u : ℕ) (counts : List Opened) → eqb u t ≡ false → count_of u (counts ++ one_of t ∷ []) ≡ count_of u counts
pushed-others t u [] differ = rw (differ_turned t u differ) refl
pushed-others t u (o ∷ counts) differ = ap (λ rest. cond (eqb o.by u) o.count rest) (pushed-others t u counts differ)

-- a further line, of a transaction that wasn't listed
pub pushed : (t : ℕ) (counts : List Opened) → AreListedOnce counts → count_of t counts ≡ 0 → IsRecounted t 1 counts (counts ++ one_of t ∷ [])
pushed t counts listed none =
    let apart = unlisted t counts listed.some none in
    record {
      listed = record {
        once = pairs-push IsApart counts (one_of t) listed.once apart;
        some = each-push (λ o. 0 < o.count) counts (one_of t) listed.some (omega arith);
      };
      mine = pushed-mine t counts none apart;
      others = λ u differ. pushed-others t u counts differ;
    }

-- ---- another count

-- t's line with this count
abbrev pub with_count : ℕ → ℕ → Opened → Opened
with_count t n o = record o { count = cond (eqb o.by t) n o.count }

-- the lines are of the same transactions
put-apart : (t n x : ℕ) (counts : List Opened) → AllByRecursion (λ o. eqb o.by x ≡ false) counts → AllByRecursion (λ o. eqb o.by x ≡ false) (map (with_count t n) counts)
put-apart t n x [] p = tt
put-apart t n x (o ∷ counts) p = (p.0, put-apart t n x counts p.1)

put-once : (t n : ℕ) (counts : List Opened) → Pairs IsApart counts → Pairs IsApart (map (with_count t n) counts)
put-once t n [] p = tt
put-once t n (o ∷ counts) p = (put-apart t n o.by counts p.0, put-once t n counts p.1)

-- each has some entry
put-some : (t n : ℕ) (counts : List Opened) → 0 < n → AllByRecursion (λ o. 0 < o.count) counts → AllByRecursion (λ o. 0 < o.count) (map (with_count t n) counts)
put-some t n [] some p = tt
put-some t n (o ∷ counts) some p =
    elim (cases_Bool (eqb o.by t)) [
      | inl is ↦ rw is (some, put-some t n counts some p.1)
      | inr isnt ↦ rw isnt (p.0, put-some t n counts some p.1)
    ]

-- t's count is the new one, where it was listed
put-mine : (t n : ℕ) (counts : List Opened) → 0 < count_of t counts → count_of t (map (with_count t n) counts) ≡ n
put-mine t n [] held = absurd (omega arith)
put-mine t n (o ∷ counts) held =
    elim (cases_Bool (eqb o.by t)) [
      | inl is ↦ rw is refl
      | inr isnt ↦ rw isnt (put-mine t n counts (rw isnt at held))
    ]

-- each other one's is as it was
put-others : (t n u : ℕ) (counts : List Opened) → eqb u t ≡ false → count_of u (map (with_count t n) counts) ≡ count_of u counts
put-others t n u [] differ = refl
put-others t n u (o ∷ counts) differ =
    elim (cases_Bool (eqb o.by u)) [
      | inl is ↦
          let apart : eqb o.by t ≡ false = rw (eqb-true o.by u is) differ in
          simp (is, apart) refl
      | inr isnt ↦ rw isnt (put-others t n u counts differ)
    ]

-- another count for a transaction that is listed
pub put : (t n : ℕ) (counts : List Opened) → AreListedOnce counts → 0 < count_of t counts → 0 < n → IsRecounted t n counts (map (with_count t n) counts)
put t n counts listed held some = record {
  listed = record { once = put-once t n counts listed.once; some = put-some t n counts some listed.some };
  mine = put-mine t n counts held;
  others = λ u differ. put-others t n u counts differ;
}

-- a line of another transaction stays as it is
pub put-apart_line : (t n : ℕ) (o : Opened) → eqb o.by t ≡ false → with_count t n o ≡ o
put-apart_line t n o isnt = ap (λ count. record o { count = count }) (rw isnt refl)

-- lines of other transactions stay as they are
put-none : (t n : ℕ) (counts : List Opened) → AllByRecursion (λ o. eqb o.by t ≡ false) counts → map (with_count t n) counts ≡ counts
put-none t n [] p = refl
put-none t n (o ∷ counts) p =
    ap (λ x. x ∷ map (with_count t n) counts) (put-apart_line t n o p.0) ∙ ap (λ rest. o ∷ rest) (put-none t n counts p.1)

-- where each transaction is listed once, only t's line has to be written
pub put-at : (t n place : ℕ) (counts : List Opened) (x : Opened) → Pairs IsApart counts → place < length counts → x ≡ get_or counts place x → eqb x.by t ≡ true →
    set counts place (record x { count = n }) ≡ map (with_count t n) counts
put-at t n place [] x once inside e is = absurd (omega arith)
put-at t n zero (o ∷ counts) x once inside e is =
    let same : o.by ≡ t = ap (λ (y : Opened). y.by) (sym e) ∙ eqb-true x.by t is in
    let written : record x { count = n } ≡ with_count t n o = ap (λ (y : Opened). record y { count = n }) e ∙ ap (λ count. record o { count = count }) (rw (eq-eqb o.by t same) refl) in
    ap (λ y. y ∷ counts) written ∙ ap (λ rest. with_count t n o ∷ rest) (sym (put-none t n counts (rw same at once.0)))
put-at t n (suc place) (o ∷ counts) x once inside e is =
    let within : place < length counts = omega arith in
    let apart : eqb x.by o.by ≡ false = rw e (All-from_recursion (λ (b : Opened). eqb b.by o.by ≡ false) counts once.0 place x within) in
    let differ : eqb o.by t ≡ false = differ_turned o.by t (rw (eqb-true x.by t is) at apart) in
    ap (λ rest. o ∷ rest) (put-at t n place counts x once.1 within e is) ∙ ap (λ y. y ∷ map (with_count t n) counts) (sym (put-apart_line t n o differ))

-- ---- where a transaction is listed

-- the line at which a search ends
pub place-here : (t place : ℕ) (counts : List Opened) (one : Opened) → place < length counts → one ≡ get_or counts place one → eqb one.by t ≡ true →
    count_of t (drop place counts) ≡ count_of t counts → IsPlaceOf t counts place
place-here t place counts one inside read is passed =
    let here : (d : Opened) → one ≡ get_or counts place d = get_or_read counts place one inside read in
    let rest : List Opened = drop (place + 1) counts in
    let first : count_of t (drop place counts) ≡ one.count =
    ap (count_of t) (drop_more counts place one inside ∙ ap (λ x. x ∷ rest) (sym read)) ∙ ap (λ b. cond b one.count (count_of t rest)) is in
    record {
      inside = inside;
      mine = λ d. ap (λ (x : Opened). x.by) (sym (here d)) ∙ eqb-true one.by t is;
      count = λ d. ap (λ (x : Opened). x.count) (sym (here d)) ∙ sym first ∙ passed;
    }

-- the line there is t's
place-mine : (t place : ℕ) (counts : List Opened) (x : Opened) → IsPlaceOf t counts place → x ≡ get_or counts place x → x.by ≡ t
place-mine t place counts x p read = ap (λ (y : Opened). y.by) read ∙ p.mine x

-- and has its count
pub place-count : (t place : ℕ) (counts : List Opened) (x : Opened) → IsPlaceOf t counts place → x ≡ get_or counts place x → x.count ≡ count_of t counts
place-count t place counts x p read = ap (λ (y : Opened). y.count) read ∙ p.count x

-- which isn't 0
place-some : (t place : ℕ) (counts : List Opened) (x : Opened) → AreListedOnce counts → IsPlaceOf t counts place → x ≡ get_or counts place x → 0 < count_of t counts
place-some t place counts x listed p read =
    let some : 0 < (get_or counts place x).count = All-from_recursion (λ (o : Opened). 0 < o.count) counts listed.some place x p.inside in
    omega (arith, p.count x)

-- another count is written there
pub put-there : (t n place : ℕ) (counts : List Opened) (x : Opened) → AreListedOnce counts → IsPlaceOf t counts place → x ≡ get_or counts place x → 0 < n →
    IsRecounted t n counts (set counts place (record x { count = n }))
put-there t n place counts x listed p read some =
    rw (put-at t n place counts x listed.once p.inside read (eq-eqb x.by t (place-mine t place counts x p read)))
    (put t n counts listed (place-some t place counts x listed p read) some)

-- a transaction that isn't listed has no count left
pub unlisted-left : (t n : ℕ) (counts : List Opened) → AreListedOnce counts → count_of t counts ≡ 0 → n ≡ 0 → IsRecounted t n counts counts
unlisted-left t n counts listed none zero_left = record { listed = listed; mine = none ∙ sym zero_left; others = λ u differ. refl }

-- ---- a transaction less

-- how many lines t has, and what they count
abbrev one_line : ℕ → Opened → ℕ
one_line t o = cond (eqb o.by t) 1 0

abbrev its_count : ℕ → Opened → ℕ
its_count t o = cond (eqb o.by t) o.count 0

-- lines of other transactions are none of t's
lines-none : (t : ℕ) (counts : List Opened) → AllByRecursion (λ o. eqb o.by t ≡ false) counts → (sum_by (one_line t) counts ≡ 0) × (sum_by (its_count t) counts ≡ 0)
lines-none t [] apart = (refl, refl)
lines-none t (o ∷ counts) apart =
    let rest = lines-none t counts apart.1 in (
      sum_by-cons (one_line t) o counts ∙ rw (apart.0, rest.0) refl,
      sum_by-cons (its_count t) o counts ∙ rw (apart.0, rest.1) refl,
    )

-- and the converse
none-lines : (t : ℕ) (counts : List Opened) → sum_by (one_line t) counts ≡ 0 → AllByRecursion (λ o. eqb o.by t ≡ false) counts
none-lines t [] none = tt
none-lines t (o ∷ counts) none =
    let sum : one_line t o + sum_by (one_line t) counts ≡ 0 = sym (sum_by-cons (one_line t) o counts) ∙ none in
    elim (cases_Bool (eqb o.by t)) [
      | inl is ↦ let more : 1 + sum_by (one_line t) counts ≡ 0 = rw is at sum in absurd (omega arith)
      | inr isnt ↦ let less : 0 + sum_by (one_line t) counts ≡ 0 = rw isnt at sum in (isnt, none-lines t counts (omega arith))
    ]

-- where each is listed once, each has one line at most, and its count is what its lines count
once-lines : (t : ℕ) (counts : List Opened) → Pairs IsApart counts → (sum_by (one_line t) counts ≤ 1) × (sum_by (its_count t) counts ≡ count_of t counts)
once-lines t [] once = (omega arith, refl)
once-lines t (o ∷ counts) once =
    elim (cases_Bool (eqb o.by t)) [
      | inl is ↦
          let none = lines-none t counts (rw (eqb-true o.by t is) at once.0) in (
            rw (sum_by-cons (one_line t) o counts, is, none.0) (omega arith),
            rw (sum_by-cons (its_count t) o counts, is, none.1) (omega arith),
          )
      | inr isnt ↦
          let rest = once-lines t counts once.1 in (
            rw (sum_by-cons (one_line t) o counts, isnt) (omega (arith, rest.0)),
            rw (sum_by-cons (its_count t) o counts, isnt) (omega (arith, rest.1)),
          )
    ]

-- where each has one line at most, each is listed once
lines-once : (counts : List Opened) → ((t : ℕ) → sum_by (one_line t) counts ≤ 1) → Pairs IsApart counts
lines-once [] few = tt
lines-once (o ∷ counts) few =
    let sum : (t : ℕ) → one_line t o + sum_by (one_line t) counts ≤ 1 = λ t. rw (sum_by-cons (one_line t) o counts) at (few t) in
    let mine : 1 + sum_by (one_line o.by) counts ≤ 1 = rw (eq-eqb o.by o.by refl) at (sum o.by) in
    (none-lines o.by counts (omega arith), lines-once counts (λ t. omega (arith, sum t)))

-- what is left of a list without one line, into whose place the last is put
gone-listed : (place : ℕ) (counts : List Opened) (x : Opened) → AreListedOnce counts → place < length counts → AreListedOnce (swap_remove counts place x)
gone-listed place counts x listed inside =
    let some = All-from_recursion (λ (o : Opened). 0 < o.count) counts listed.some in
    let last : 0 < (get_or counts (length counts - 1) x).count = some (length counts - 1) x (omega arith) in
    let moved = recursion_from_All (λ (o : Opened). 0 < o.count) _ (All-set (λ (o : Opened). 0 < o.count) counts place (get_or counts (length counts - 1) x) last some) in
    record {
      once = lines-once (swap_remove counts place x) (λ t. omega (arith, sum_by-swap_remove (one_line t) counts place x inside, (once-lines t counts listed.once).0));
      some = each-take (λ o. 0 < o.count) (length counts - 1) _ moved;
    }

-- without t's line: its count is 0, and each other one's is as it was
pub gone-there : (t n place : ℕ) (counts : List Opened) (x : Opened) → AreListedOnce counts → IsPlaceOf t counts place → x ≡ get_or counts place x → n ≡ 0 →
    IsRecounted t n counts (swap_remove counts place x)
gone-there t n place counts x listed p read zero_left =
    let new : List Opened = swap_remove counts place x in
    let left : AreListedOnce new = gone-listed place counts x listed p.inside in
    let counted : (u : ℕ) → count_of u new + its_count u x ≡ count_of u counts =
    λ u. ap (λ c. c + its_count u x) (sym (once-lines u new left.once).1) ∙ ap (λ (y : Opened). sum_by (its_count u) new + its_count u y) read
    ∙ sum_by-swap_remove (its_count u) counts place x p.inside ∙ (once-lines u counts listed.once).1 in
    let mine : x.by ≡ t = place-mine t place counts x p read in
    let own : count_of t new + x.count ≡ count_of t counts = rw (eq-eqb x.by t mine) at (counted t) in
    record {
      listed = left;
      mine = omega (arith, place-count t place counts x p read);
      others = λ u differ.
          let apart : eqb x.by u ≡ false = rw mine (differ_turned t u differ) in
          let same : count_of u new + 0 ≡ count_of u counts = rw apart at (counted u) in
          omega arith;
    }
