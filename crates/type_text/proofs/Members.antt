-- Members of a list that is read from its front.
use Rattle.std.proofs.Common.{◌≡◌, ℕ, ◌+◌, ◌<◌, ◌⊎◌, List, [], ◌∷◌, ◌++◌, length, take, get_or, Some, Contains, sym, ap, subst, ◌∙◌}
use Rattle.std.specs.List.{slice_get}
use Rattle.std.proofs.lemmas.List.{take_more, take-append-drop}
use Rattle.std.proofs.lemmas.List.Elements.{Contains-append_left, Contains-push, Contains-push_cases}
use Rattle.std.proofs.lemmas.Option.{slice_get_within, get_or_from_slice_get}

-- one more element
pub take-more : {X : Type 0} (xs : List X) (i : ℕ) (x : X) → i < length xs → x ≡ get_or xs i x → take (i + 1) xs ≡ take i xs ++ x ∷ []
take-more xs i x below e = take_more xs i x below ∙ ap (λ y. take i xs ++ y ∷ []) (sym e)

-- what was among them still is
pub Contains-more : {X : Type 0} (xs : List X) (i : ℕ) (x y : X) → i < length xs → x ≡ get_or xs i x → Contains (take i xs) y → Contains (take (i + 1) xs) y
Contains-more xs i x y below e h = rw (take-more xs i x below e) (Contains-append_left (take i xs) (x ∷ []) y h)

-- so is the new one
pub Contains-last : {X : Type 0} (xs : List X) (i : ℕ) (x : X) → i < length xs → x ≡ get_or xs i x → Contains (take (i + 1) xs) x
Contains-last xs i x below e = rw (take-more xs i x below e) (Contains-push (take i xs) x)

-- and nothing else
pub Contains-more_cases : {X : Type 0} (xs : List X) (i : ℕ) (x y : X) → i < length xs → x ≡ get_or xs i x → Contains (take (i + 1) xs) y → Contains (take i xs) y ⊎ (x ≡ y)
Contains-more_cases xs i x y below e h = Contains-push_cases (take i xs) x y (rw (take-more xs i x below e) at h)

pub Contains-front : {X : Type 0} (xs : List X) (i : ℕ) (y : X) → Contains (take i xs) y → Contains xs y
Contains-front {X} xs i y h = let P : List X → Type 0 = λ zs. Contains zs y in subst P (take-append-drop i xs) (Contains-append_left (take i xs) _ y h)

-- an element at a place is among them
pub Contains-at : {X : Type 0} (xs : List X) (i : ℕ) (x : X) → slice_get xs i ≡ Some x → Contains xs x
Contains-at xs i x at = (i, slice_get_within xs i x at, get_or_from_slice_get xs i x x at)

-- an element that is the one at a place of a list is in the list
pub at-place : {X : Type 0} (xs : List X) (i : ℕ) (x : X) → i < length xs → x ≡ get_or xs i x → Contains xs x
at-place xs i x below e = (i, below, sym e)
