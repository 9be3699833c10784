-- The first events of the next epoch, part after part.
use Rattle.std.proofs.Common.{◌≡◌, ◌≢◌, ℕ, zero, suc, ◌+◌, ◌<◌, ◌≤◌, true, false, ◌==◌, List, [], ◌∷◌, ◌++◌, map, filter, length, take, get_or, Ok, Err, Some, None, option_map, slice_get, refl, sym, ap, ◌∙◌, inl, inr, append_assoc, append-nil, arith}
use Rattle.std.specs.List.{AllByRecursion}
use Rattle.std.specs.List.Sorted.{IsBinarySearchResult}
use Rattle.std.specs.Ordering.{nat_cmp}
use Rattle.std.proofs.lemmas.Bool.{cases_Bool, cases_lt, eqb-true, eq-eqb}
use Rattle.std.proofs.lemmas.Bool.Decides.{nat_tests}
use Rattle.std.proofs.lemmas.List.{map-append, length-map, length-take-le, take_all, take_more}
use Rattle.std.proofs.lemmas.List.Elements.{filter-append}
use Rattle.std.proofs.lemmas.List.Sorted.{searched}
use Rattle.std.proofs.lemmas.Option.{slice_get_cases, slice_get-map, slice_get_read, none-some}
use Rattle.type_table.proofs.Elements.{take-found}
use Rattle.object_trait.specs.Orders.{Pairs}
use Rattle.object_trait.specs.Meaning.{Meaning}
use Rattle.object_trait.specs.declared.event.Event.{Event}
use Rattle.object_trait.specs.declared.event.EventKind.TheVariants.{Begin, Op}
use Rattle.object_trait.specs.declared.log_entry.LogEntry.{LogEntry}
use Rattle.serial_order.specs.Operations.{is_among}
use Rattle.serial_order.specs.Represent.{plain}
use Rattle.carried_runs.specs.Carried.{is_carried, carried_of_logs, number_in, begins_from, done_again, again_at, carried_by}

-- ---- the place of a transaction

-- what holds of each holds at a place
each-at : (Q : ℕ → Type 0) (P : List ℕ) (i : ℕ) → AllByRecursion Q P → i < length P → Q (get_or P i 0)
each-at Q [] i all inside = absurd (omega (arith, inside))
each-at Q (u ∷ P) zero all inside = all.0
each-at Q (u ∷ P) (suc i) all inside = each-at Q P i all.1 (omega (arith, inside))

-- ascending numbers rise
rising : (P : List ℕ) → Pairs (λ a b. a < b) P → (i j : ℕ) → i ≤ j → j < length P → get_or P i 0 ≤ get_or P j 0
rising [] ascend i j low inside = absurd (omega (arith, inside))
rising (u ∷ P) ascend zero zero low inside = omega arith
rising (u ∷ P) ascend zero (suc j) low inside = let more = each-at (λ b. u < b) P j ascend.0 (omega (arith, inside)) in omega (arith, more)
rising (u ∷ P) ascend (suc i) zero low inside = absurd (omega (arith, low))
rising (u ∷ P) ascend (suc i) (suc j) low inside = rising P ascend.1 i j (omega (arith, low)) (omega (arith, inside))

-- where t stands is its number
at-place : (P : List ℕ) (t i : ℕ) → Pairs (λ a b. a < b) P → i < length P → get_or P i 0 ≡ t → (is_among P t ≡ true) × (i ≡ number_in P t)
at-place [] t i ascend inside is = absurd (omega (arith, inside))
at-place (u ∷ P) t zero ascend inside is = let here : (u == t) ≡ true = eq-eqb u t is in rw here (refl, refl)
at-place (u ∷ P) t (suc i) ascend inside is =
    let more = each-at (λ b. u < b) P i ascend.0 (omega (arith, inside)) in
    let other : (u == t) ≡ false = grind (arith, nat_tests, more, is) in
    let rest = at-place P t i ascend.1 (omega (arith, inside)) is in
    rw other (rest.0, ap suc rest.1)

-- where it stands nowhere it is none of them
at-none : (P : List ℕ) (t : ℕ) → ((i : ℕ) → i < length P → get_or P i 0 ≢ t) → is_among P t ≡ false
at-none [] t none = refl
at-none (u ∷ P) t none =
    elim (cases_Bool (u == t)) [
      | inl here ↦ absurd (none 0 (omega arith) (eqb-true u t here))
      | inr other ↦ rw other (at-none P t (λ i inside. none (suc i) (omega (arith, inside))))
    ]

-- so it is what a search finds
pub is-place : (P : List ℕ) (t i : ℕ) → Pairs (λ a b. a < b) P → IsBinarySearchResult (λ y. nat_cmp y t) P (Ok i) → (is_among P t ≡ true) × (i ≡ number_in P t)
is-place P t i ascend says = let at = searched P t (Ok i) says (rising P ascend) in at-place P t i ascend at.0 at.1

pub is-none : (P : List ℕ) (t i : ℕ) → Pairs (λ a b. a < b) P → IsBinarySearchResult (λ y. nat_cmp y t) P (Err i) → is_among P t ≡ false
is-none P t i ascend says =
    let at = searched P t (Err i) says (rising P ascend) in
    at-none P t (λ k inside is. apart at.1 at.2 k inside is)
  where
    apart : ((k : ℕ) → k < i → get_or P k 0 < t) → ((k : ℕ) → i ≤ k → k < length P → t < get_or P k 0) → (k : ℕ) → k < length P → get_or P k 0 ≢ t
    apart below above k inside is =
        elim (cases_lt k i) [
          | inl low ↦ let less = below k low in omega (arith, less, is)
          | inr high ↦ let more = above k high inside in omega (arith, more, is)
        ]

-- ---- one entry

-- one that is done isn't carried
pub done-isnt : (x : ℕ) (worker : ℕ → ℕ) (P : List ℕ) (e : LogEntry) → e.done ≡ true → again_at x worker P (e ∷ []) ≡ []
done-isnt x worker P e done =
    elim (cases_Bool (is_among P e.by)) [
      | inl mine ↦ rw (mine, done) refl
      | inr other ↦ rw other refl
    ]

-- nor is another's
pub others-isnt : (x : ℕ) (worker : ℕ → ℕ) (P : List ℕ) (e : LogEntry) → is_among P e.by ≡ false → again_at x worker P (e ∷ []) ≡ []
others-isnt x worker P e other = rw other refl

-- an open one of these is
pub again-one : (x : ℕ) (worker : ℕ → ℕ) (P : List ℕ) (e : LogEntry) (t : ℕ) → e.done ≡ false → is_among P e.by ≡ true → t ≡ number_in P e.by
    → again_at x worker P (e ∷ []) ≡ (record { worker = worker e.by; kind = Op e.op t x }) ∷ []
again-one x worker P e t undone mine is = rw (mine, undone, is) refl

-- ---- one part after another

-- one more begins
pub begins-more : (worker : ℕ → ℕ) (n : ℕ) (P : List ℕ) (t : ℕ) → begins_from worker n (P ++ t ∷ []) ≡ begins_from worker n P ++ (record { worker = worker t; kind = Begin (n + length P) }) ∷ []
begins-more worker n [] t = let is : n ≡ n + 0 = omega arith in ap (λ k. (record { worker = worker t; kind = Begin k }) ∷ []) is
begins-more worker n (u ∷ P) t =
    let is : suc n + length P ≡ n + suc (length P) = omega arith in
    ap (λ es. (record { worker = worker u; kind = Begin n }) ∷ es)
    (begins-more worker (suc n) P t ∙ ap (λ k. begins_from worker (suc n) P ++ (record { worker = worker t; kind = Begin k }) ∷ []) is)

-- the begins of the first i + 1
pub begins-next : (worker : ℕ → ℕ) (P : List ℕ) (i : ℕ) → i < length P
    → begins_from worker 0 (take (i + 1) P) ≡ begins_from worker 0 (take i P) ++ (record { worker = worker (get_or P i 0); kind = Begin i }) ∷ []
begins-next worker P i inside =
    let is : 0 + length (take i P) ≡ i = omega (arith, length-take-le i P (omega (arith, inside))) in
    ap (begins_from worker 0) (take_more P i 0 inside)
    ∙ begins-more worker 0 (take i P) (get_or P i 0)
    ∙ ap (λ k. begins_from worker 0 (take i P) ++ (record { worker = worker (get_or P i 0); kind = Begin k }) ∷ []) is

-- what two logs tell, one after another
again-append : (x : ℕ) (worker : ℕ → ℕ) (P : List ℕ) (log more : List LogEntry) → again_at x worker P (log ++ more) ≡ again_at x worker P log ++ again_at x worker P more
again-append x worker P log more =
    ap (λ es. map (done_again worker P) (map (plain x) es)) (filter-append (is_carried P) log more)
    ∙ ap (map (done_again worker P)) (map-append (plain x) (filter (is_carried P) log) (filter (is_carried P) more))
    ∙ map-append (done_again worker P) (map (plain x) (filter (is_carried P) log)) (map (plain x) (filter (is_carried P) more))

-- the first i + 1 entries
pub again-next : (x : ℕ) (worker : ℕ → ℕ) (P : List ℕ) (log : List LogEntry) (i : ℕ) (e : LogEntry) (before now more : List Event) → slice_get log i ≡ Some e
    → now ≡ before ++ again_at x worker P (take i log) → more ≡ now ++ again_at x worker P (e ∷ []) → more ≡ before ++ again_at x worker P (take (i + 1) log)
again-next x worker P log i e before now more there so_far one =
    one
    ∙ ap (λ es. es ++ again_at x worker P (e ∷ [])) so_far
    ∙ append_assoc before (again_at x worker P (take i log)) (again_at x worker P (e ∷ []))
    ∙ ap (λ es. before ++ es) (sym (again-append x worker P (take i log) (e ∷ [])) ∙ ap (again_at x worker P) (sym (take-found log i e there)))

-- and all of them
pub again-all : (x : ℕ) (worker : ℕ → ℕ) (P : List ℕ) (log : List LogEntry) (i : ℕ) (before now : List Event) → slice_get log i ≡ None → now ≡ before ++ again_at x worker P (take i log)
    → now ≡ before ++ again_at x worker P log
again-all x worker P log i before now none so_far = so_far ∙ ap (λ es. before ++ again_at x worker P es) (take_all i log (past log i none))
  where
    past : (log : List LogEntry) (i : ℕ) → slice_get log i ≡ None → length log ≤ i
    past log i none =
        elim ((slice_get_cases log i).1) [
          | inl found ↦ absurd (none-some found.0 (sym none ∙ found.2))
          | inr out ↦ out.0
        ]

-- one more object
logs-more : (n : ℕ) (P : List ℕ) (ms : List Meaning) (m : Meaning) → carried_of_logs n P (ms ++ m ∷ []) ≡ carried_of_logs n P ms ++ map (plain (n + length ms)) (filter (is_carried P) m.log)
logs-more n P [] m =
    let is : n ≡ n + 0 = omega arith in
    append-nil (map (plain n) (filter (is_carried P) m.log)) ∙ ap (λ k. map (plain k) (filter (is_carried P) m.log)) is
logs-more n P (k ∷ ms) m =
    let is : suc n + length ms ≡ n + suc (length ms) = omega arith in
    let first = map (plain n) (filter (is_carried P) k.log) in
    ap (λ V. first ++ V) (logs-more (suc n) P ms m ∙ ap (λ j. carried_of_logs (suc n) P ms ++ map (plain j) (filter (is_carried P) m.log)) is)
    ∙ sym (append_assoc first (carried_of_logs (suc n) P ms) (map (plain (n + suc (length ms))) (filter (is_carried P) m.log)))

-- what the object at a place means
pub meaning-at : {R : Type 0} (meaning : R → Meaning) (all : List R) (x : ℕ) (object : R) → x < length all → object ≡ get_or all x object → slice_get (map meaning all) x ≡ Some (meaning object)
meaning-at meaning all x object inside is = slice_get-map meaning all x ∙ ap (option_map meaning) (slice_get_read all (length all) x object refl inside is)

-- the first x + 1 objects
pub objects-next : {R : Type 0} (meaning : R → Meaning) (worker : ℕ → ℕ) (P : List ℕ) (all : List R) (x : ℕ) (object : R) (events more : List Event) → x < length all → object ≡ get_or all x object
    → events ≡ carried_by worker P (carried_of_logs 0 P (map meaning (take x all))) → more ≡ events ++ again_at x worker P (meaning object).log
    → more ≡ carried_by worker P (carried_of_logs 0 P (map meaning (take (x + 1) all)))
objects-next meaning worker P all x object events more inside is so_far one =
    let ms = map meaning (take x all) in
    let told = carried_of_logs 0 P ms in
    let its = map (plain x) (filter (is_carried P) (meaning object).log) in
    let count : 0 + length ms ≡ x = omega (arith, length-map (take x all) meaning, length-take-le x all (omega (arith, inside))) in
    let front : map meaning (take (x + 1) all) ≡ ms ++ meaning object ∷ [] =
    ap (map meaning) (take_more all x object inside ∙ ap (λ o. take x all ++ o ∷ []) (sym is)) ∙ map-append meaning (take x all) (object ∷ []) in
    let both : carried_of_logs 0 P (map meaning (take (x + 1) all)) ≡ told ++ its =
    ap (carried_of_logs 0 P) front ∙ logs-more 0 P ms (meaning object) ∙ ap (λ k. told ++ map (plain k) (filter (is_carried P) (meaning object).log)) count in
    one
    ∙ ap (λ es. es ++ map (done_again worker P) its) so_far
    ∙ append_assoc (begins_from worker 0 P) (map (done_again worker P) told) (map (done_again worker P) its)
    ∙ ap (λ es. begins_from worker 0 P ++ es) (sym (map-append (done_again worker P) told its))
    ∙ ap (carried_by worker P) (sym both)
