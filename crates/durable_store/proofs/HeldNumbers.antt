-- Numbers of transactions that are prepared, in their order.
use Rattle.std.proofs.Common.{◌≡◌, ◌∙◌, ℕ, suc, ◌+◌, ◌<◌, ◌≤◌, ◌==◌, eqb, true, List, [], ◌∷◌, ◌++◌, length, map, take, get_or, Ok, Some, slice_get, ap, subst, inl, inr, arith}
use Rattle.std.specs.List.{AllByRecursion, AllPairs, dedup}
use Rattle.std.specs.List.Sorted.{IsBinarySearchResult, IsPermutation, IsSorted, IsStrictlyIncreasing}
use Rattle.std.specs.Option.{option_map}
use Rattle.std.specs.Ordering.{nat_cmp}
use Rattle.std.proofs.lemmas.Bool.{cases_Bool, eq-eqb, eqb-true, false≢true}
use Rattle.std.proofs.lemmas.List.{map_push}
use Rattle.std.proofs.lemmas.List.Folds.{list_any_at}
use Rattle.std.proofs.lemmas.List.Kept.{AllPairs-from_increasing}
use Rattle.std.proofs.lemmas.Option.{get_or_from_slice_get, slice_get-map, slice_get_within}
use Rattle.type_table.proofs.Elements.{each-places, each-weaker, take-found}
use Rattle.object_trait.specs.Orders.{Pairs}
use Rattle.serial_order.specs.Operations.{is_among}
use Rattle.serial_order.proofs.Pairs.{each-all}
use Rattle.carried_runs.specs.Carried.{number_in}
use Rattle.carried_runs.proofs.FirstEvents.{is-place}
use Rattle.journal.specs.declared.prepared_row.Prepared.{Prepared}
use Rattle.store.proofs.SortedNumbers.{sorted-once}
use Rattle.durable_store.specs.Held.{AreTheirNumbers, prepared_numbers}

-- ---- ascending numbers

-- each is below all later ones
each-below : (ns : List ℕ) → AllPairs (λ a b. a < b) ns → Pairs (λ a b. a < b) ns
each-below [] pairs = tt
each-below (n ∷ ns) pairs = (
  each-places (λ b. n < b) ns (λ i b there.
      let low : i < length ns = slice_get_within ns i b there in
      subst (λ v. n < v) (get_or_from_slice_get ns i b 0 there) (pairs 0 (suc i) 0 (omega arith) (omega (arith, low)))),
  each-below ns (λ i j d low inside. pairs (suc i) (suc j) d (omega (arith, low)) (omega (arith, inside))),
)

pub ascends : (ns : List ℕ) → IsStrictlyIncreasing ns → Pairs (λ a b. a < b) ns
ascends ns rises = each-below ns (AllPairs-from_increasing ns rises)

-- the number of one of them is no greater than it
number-from : (ns : List ℕ) (n t : ℕ) → Pairs (λ a b. a < b) ns → AllByRecursion (λ b. n ≤ b) ns → is_among ns t ≡ true → n + number_in ns t ≤ t
number-from [] n t ascend low inside = absurd (false≢true inside)
number-from (u ∷ ns) n t ascend low inside =
    elim (cases_Bool (u == t)) [
      | inl is ↦ rw is (let same = eqb-true u t is in omega (arith, low.0, same))
      | inr isnt ↦ rw isnt (let rest = number-from ns (suc n) t ascend.1 (each-weaker (λ b less. omega (arith, less, low.0)) ns ascend.0) (rw isnt at inside) in omega (arith, rest))
    ]

-- so the place of t is no greater than t
pub found-within : (ns : List ℕ) (t i : ℕ) → Pairs (λ a b. a < b) ns → IsBinarySearchResult (λ y. nat_cmp y t) ns (Ok i) → i ≤ t
found-within ns t i ascend says =
    let its = is-place ns t i ascend says in
    let low = number-from ns 0 t ascend (each-all (λ b. omega arith) ns) its.0 in
    omega (arith, low, its.1)

-- ---- in their order

-- after a sort and a dedup
pub in-order : (ps : List Prepared) (those sorted now : List ℕ) → those ≡ prepared_numbers ps → IsPermutation those sorted → IsSorted nat_cmp sorted → now ≡ dedup eqb sorted → AreTheirNumbers ps now
in-order ps those sorted now are moved order is =
    let its = sorted-once those sorted now moved order is in
    record { ascend = its.0; same = λ t. its.1 t ∙ ap (λ ns. is_among ns t) are }

-- ---- each of them

-- its number is one of theirs
listed : (ps : List Prepared) (i : ℕ) (p : Prepared) → slice_get ps i ≡ Some p → is_among (prepared_numbers ps) p.number ≡ true
listed ps i p there =
    let at : slice_get (prepared_numbers ps) i ≡ Some p.number = slice_get-map (λ (p : Prepared). p.number) ps i ∙ ap (option_map (λ (p : Prepared). p.number)) there in
    list_any_at (λ u. u == p.number) (prepared_numbers ps) i 0 (slice_get_within (prepared_numbers ps) i p.number at) (eq-eqb (get_or (prepared_numbers ps) i 0) p.number (get_or_from_slice_get (prepared_numbers ps) i p.number 0 at))

pub one-among : (ps : List Prepared) (those : List ℕ) (i : ℕ) (p : Prepared) → AreTheirNumbers ps those → slice_get ps i ≡ Some p → is_among those p.number ≡ true
one-among ps those i p order there = order.same p.number ∙ listed ps i p there

pub each-among : (ps : List Prepared) (those : List ℕ) → AreTheirNumbers ps those → AllByRecursion (λ (p : Prepared). is_among those p.number ≡ true) ps
each-among ps those order = each-places (λ (p : Prepared). is_among those p.number ≡ true) ps (λ i p there. one-among ps those i p order there)

-- what is made of one more
pub map-found : {A B : Type 0} (f : A → B) (V : List A) (i : ℕ) (a : A) → slice_get V i ≡ Some a → map f (take (i + 1) V) ≡ map f (take i V) ++ f a ∷ []
map-found f V i a there = ap (map f) (take-found V i a there) ∙ map_push f (take i V) a
