-- Places that are visited in turn.
use Rattle.std.proofs.Common.{◌≡◌, ℕ, ◌+◌, ◌<◌, ◌||◌, ◌==◌, List, length, take, get_or, ◌⊎◌, refl, sym, ◌∙◌, inl, inr}
use Rattle.std.specs.List.{list_any}
use Rattle.std.proofs.lemmas.Bool.{or_cases, or_left, or_right, eq-eqb, eqb-true}
use Rattle.std.proofs.lemmas.List.Folds.{list_any_more, list_any_at}
use Rattle.object_calls.specs.Ends.{is_at}

-- the place at i comes next
module _ (places : List ℕ) (i : ℕ) (i_in : i < length places) where
  pub next_is_at : is_at places (get_or places i 0)
  next_is_at = list_any_at (λ y. y == get_or places i 0) places i 0 i_in (eq-eqb (get_or places i 0) (get_or places i 0) refl)

  more : (x : ℕ) → list_any (λ y. y == x) (take (i + 1) places) ≡ (list_any (λ y. y == x) (take i places) || (get_or places i 0 == x))
  more x = list_any_more (λ y. y == x) places i 0 i_in

  pub visited_with : (x : ℕ) → is_at (take i places) x → is_at (take (i + 1) places) x
  visited_with x at = more x ∙ or_left (list_any (λ y. y == x) (take i places)) (get_or places i 0 == x) at

  pub visited_now : is_at (take (i + 1) places) (get_or places i 0)
  visited_now =
      let next : ℕ = get_or places i 0 in
      more next ∙ or_right (list_any (λ y. y == next) (take i places)) (next == next) (eq-eqb next next refl)

  pub visited_cases : (x : ℕ) → is_at (take (i + 1) places) x → is_at (take i places) x ⊎ (get_or places i 0 ≡ x)
  visited_cases x at =
      elim (or_cases (list_any (λ y. y == x) (take i places)) (get_or places i 0 == x) (sym (more x) ∙ at)) [
        | inl before ↦ inl before
        | inr now ↦ inr (eqb-true (get_or places i 0) x now)
      ]
