-- What was changed at the places that were visited, and at no other.
use Rattle.std.proofs.Common.{◌≡◌, ℕ, ◌+◌, ◌<◌, List, [], length, map, set, take, get_or, Some, refl, sym, ap, subst, ◌∙◌, inl, inr, length-set}
use Rattle.std.specs.Prelude.{slice_get}
use Rattle.std.specs.Option.{option_map}
use Rattle.std.proofs.lemmas.Bool.{cases_eq, false≢true}
use Rattle.std.proofs.lemmas.List.{map-set}
use Rattle.std.proofs.lemmas.Option.{slice_get-map, same_Some}
use Rattle.type_table.proofs.Elements.{found-set, found-set_other}
use Rattle.object_calls.specs.Ends.{is_at, ChangesAt}
use Rattle.object_calls.proofs.Places.{visited_with, visited_now, visited_cases}

-- ---- a visit

-- before the first
pub changes_none : {A : Type 0} (change : ℕ → A → A → Type 0) (xs : List A) → ChangesAt [] change xs xs
changes_none change xs = record { as_many = refl; changed = λ x a b is_a is_b at. absurd (false≢true at); others = λ x isnt. refl }

-- at the place that comes next
module _ (places : List ℕ) (i : ℕ) (i_in : i < length places) {A : Type 0} (change : ℕ → A → A → Type 0) (old new : List A) (h : ChangesAt (take i places) change old new) where
  -- it was visited before, and is left
  pub changes_again : is_at (take i places) (get_or places i 0) → ChangesAt (take (i + 1) places) change old new
  changes_again before =
      record {
        as_many = h.as_many;
        changed = λ x a b is_a is_b at.
            h.changed x a b is_a is_b
            (elim (visited_cases places i i_in x at) [
              | inl early ↦ early
              | inr same ↦ subst (λ z. is_at (take i places) z) same before
            ]);
        others = λ x isnt. h.others x (λ at. isnt (visited_with places i i_in x at));
      }

  -- it wasn't, and is changed
  module _ (first : is_at (take i places) (get_or places i 0) → ⊥) (a b : A) (is_a : slice_get new (get_or places i 0) ≡ Some a) (done : change (get_or places i 0) a b) where
    changed_here : (x : ℕ) (p q : A) → x ≡ get_or places i 0 → get_or places i 0 < length new → slice_get old x ≡ Some p → slice_get (set new (get_or places i 0) b) x ≡ Some q → change x p q
    changed_here x p q same y_in is_p is_q =
        let y : ℕ = get_or places i 0 in
        let was : a ≡ p = same_Some a p (sym is_a ∙ h.others y first ∙ ap (λ z. slice_get old z) (sym same) ∙ is_p) in
        let now : b ≡ q = same_Some b q (sym (found-set new y b y_in) ∙ ap (λ z. slice_get (set new y b) z) (sym same) ∙ is_q) in
        subst (λ z. change z p q) (sym same) (subst (λ z. change y p z) now (subst (λ z. change y z b) was done))

    pub changes_now : get_or places i 0 < length new → ChangesAt (take (i + 1) places) change old (set new (get_or places i 0) b)
    changes_now y_in =
        let y : ℕ = get_or places i 0 in
        record {
          as_many = length-set new y b ∙ h.as_many;
          changed = λ x p q is_p is_q at.
              elim (cases_eq x y) [
                | inl same ↦ changed_here x p q same y_in is_p is_q
                | inr other ↦
                    elim (visited_cases places i i_in x at) [
                      | inl early ↦ h.changed x p q is_p (sym (found-set_other new y x b other) ∙ is_q) early
                      | inr same ↦ absurd (other (sym same))
                    ]
              ];
          others = λ x isnt.
              found-set_other new y x b (λ same. isnt (subst (λ z. is_at (take (i + 1) places) z) (sym same) (visited_now places i i_in)))
              ∙ h.others x (λ at. isnt (visited_with places i i_in x at));
        }

-- the same of what f says of each
pub changes_now_by : (places : List ℕ) (i : ℕ) → i < length places → {A B : Type 0} (f : B → A) (change : ℕ → A → A → Type 0) (old new : List B) → ChangesAt (take i places) change (map f old) (map f new) →
    (is_at (take i places) (get_or places i 0) → ⊥) → (a b : B) → slice_get new (get_or places i 0) ≡ Some a → change (get_or places i 0) (f a) (f b) → get_or places i 0 < length (map f new) →
    ChangesAt (take (i + 1) places) change (map f old) (map f (set new (get_or places i 0) b))
changes_now_by places i i_in f change old new h first a b is_a done y_in =
    let y : ℕ = get_or places i 0 in
    let was : slice_get (map f new) y ≡ Some (f a) = slice_get-map f new y ∙ ap (option_map f) is_a in
    subst (λ zs. ChangesAt (take (i + 1) places) change (map f old) zs) (sym (map-set f new y b))
    (changes_now places i i_in change (map f old) (map f new) h first (f a) (f b) was done y_in)
