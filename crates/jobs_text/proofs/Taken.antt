-- Lists that are read from their front, and elements that are replaced.
use Rattle.std.proofs.Common.{◌≡◌, ◌⊎◌, ℕ, suc, ◌+◌, ◌-◌, ◌<◌, List, ◌∷◌, length, take, drop, get_or, Some, sym, ap, ◌∙◌, inl, inr, arith}
use Rattle.std.specs.List.{slice_get}
use Rattle.std.specs.Prelude.{slice_set}
use Rattle.std.proofs.Math.Seq.{drop-cons}
use Rattle.std.proofs.lemmas.Bool.{cases_order}
use Rattle.std.proofs.lemmas.List.{get_or-set_same, get_or-set_other, length-set, take_all, length-drop}
use Rattle.std.proofs.lemmas.Option.{slice_get_within, slice_get-get_or, get_or_from_slice_get}

-- what is left begins with the element at the place
pub drop-next : {X : Type 0} (xs : List X) (i : ℕ) (x : X) → i < length xs → x ≡ get_or xs i x → drop i xs ≡ x ∷ drop (i + 1) xs
drop-next xs i x below at =
    let next : suc i ≡ i + 1 = omega arith in
    drop-cons xs i x below ∙ ap (λ y. y ∷ drop (suc i) xs) (sym at) ∙ ap (λ n. x ∷ drop n xs) next

-- a slice up to the end is what is left
pub slice_behind : {X : Type 0} (xs : List X) (i : ℕ) → take (length xs - i) (drop i xs) ≡ drop i xs
slice_behind xs i = take_all (length xs - i) (drop i xs) (omega (arith, length-drop i xs))

-- what is found where one element was replaced is that one, or was there before
pub set_found : {X : Type 0} (xs : List X) (v w : ℕ) (y z : X) → v < length xs → slice_get (slice_set xs v y) w ≡ Some z
    → ((w ≡ v) × (z ≡ y)) ⊎ ((w ≡ v → ⊥) × (slice_get xs w ≡ Some z))
set_found xs v w y z below at = elim (cases_order w v) [
  | inl same ↦ inl (same, sym (get_or_from_slice_get (slice_set xs v y) w z z at) ∙ ap (λ n. get_or (slice_set xs v y) n z) same ∙ get_or-set_same xs v y z below)
  | inr apart ↦
      let other : w ≡ v → ⊥ = λ e. elim apart [ inl less ↦ absurd (omega (arith, e, less)) | inr more ↦ absurd (omega (arith, e, more)) ] in
      let within : w < length xs = omega (arith, slice_get_within (slice_set xs v y) w z at, length-set xs v y) in
      let was : get_or xs w z ≡ z = sym (get_or-set_other xs v w y z other) ∙ get_or_from_slice_get (slice_set xs v y) w z z at in
      inr (other, slice_get-get_or xs w z within ∙ ap Some was)
]
