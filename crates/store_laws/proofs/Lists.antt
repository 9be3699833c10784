-- Elements of lists by their places: in a list of options, and in a list with one more.
use Rattle.std.proofs.Common.{◌≡◌, ℕ, zero, suc, List, [], ◌∷◌, ◌++◌, Option, Some, None, slice_get, slice_index_or, ap}
use Rattle.std.proofs.lemmas.Option.{none-some}

-- an element of a list of options that is something is in the list
pub inside-at : {X : Type 0} (xs : List (Option X)) (i : ℕ) (x : X) → slice_index_or xs i None ≡ Some x → slice_get xs i ≡ Some (Some x)
inside-at [] i x there = absurd (none-some x there)
inside-at (y ∷ xs) zero x there = ap Some there
inside-at (y ∷ xs) (suc i) x there = inside-at xs i x there

-- the elements before one more are the same
pub before-more : {X : Type 0} (xs : List X) (last : X) (i : ℕ) (y : X) → slice_get xs i ≡ Some y → slice_get (xs ++ last ∷ []) i ≡ Some y
before-more [] last i y there = absurd (none-some y there)
before-more (x ∷ xs) last zero y there = there
before-more (x ∷ xs) last (suc i) y there = before-more xs last i y there
