-- Two lists, one of each after another.
use Rattle.std.proofs.Common.{◌≡◌, ℕ, zero, suc, ◌+◌, ◌<◌, ◌≤◌, List, [], ◌∷◌, ◌++◌, length, take, get_or, Some, refl, sym, ap, subst, arith}
use Rattle.std.proofs.lemmas.List.{take_all, take_more}
use Rattle.std.specs.Prelude.{slice_get}
use Rattle.serving.specs.Several.{InTurn}

-- they are as long
pub turns-many : {A B : Type 0} (P : A → B → Type 0) (xs : List A) (ys : List B) → InTurn P xs ys → length ys ≡ length xs
turns-many P [] [] all = refl
turns-many P (x ∷ xs) (y ∷ ys) all = ap suc (turns-many P xs ys all.1)
turns-many P [] (y ∷ ys) all = absurd all
turns-many P (x ∷ xs) [] all = absurd all

turns-more : {A B : Type 0} (P : A → B → Type 0) (xs : List A) (ys : List B) (x : A) (y : B) → InTurn P xs ys → P x y → InTurn P (xs ++ x ∷ []) (ys ++ y ∷ [])
turns-more P [] [] x y all one = (one, tt)
turns-more P (a ∷ xs) (b ∷ ys) x y all one = (all.0, turns-more P xs ys x y all.1 one)
turns-more P [] (b ∷ ys) x y all one = absurd all
turns-more P (a ∷ xs) [] x y all one = absurd all

-- one more of the first list
turns-step : {A B : Type 0} (P : A → B → Type 0) (xs : List A) (ys : List B) (i : ℕ) (d : A) (y : B) → i < length xs → InTurn P (take i xs) ys → P (get_or xs i d) y → InTurn P (take (i + 1) xs) (ys ++ y ∷ [])
turns-step P xs ys i d y low all one = subst (λ zs. InTurn P zs (ys ++ y ∷ [])) (sym (take_more xs i d low)) (turns-more P (take i xs) ys (get_or xs i d) y all one)

-- the same, where the second list is now another
pub turns-put : {A B : Type 0} (P : A → B → Type 0) (xs : List A) (ys : List B) (i : ℕ) (d : A) {y : B} {zs : List B} → zs ≡ ys ++ y ∷ [] → i < length xs → InTurn P (take i xs) ys → P (get_or xs i d) y → InTurn P (take (i + 1) xs) zs
turns-put P xs ys i d {y} put low all one = subst (InTurn P (take (i + 1) xs)) (sym put) (turns-step P xs ys i d y low all one)

-- the same, of an element that was read
pub turns-read : {A B : Type 0} (P : A → B → Type 0) (xs : List A) (ys : List B) (i : ℕ) {x : A} {y : B} {zs : List B} → zs ≡ ys ++ y ∷ [] → x ≡ get_or xs i x → i < length xs → InTurn P (take i xs) ys → P x y → InTurn P (take (i + 1) xs) zs
turns-read P xs ys i {x} {y} put read low all one = turns-put P xs ys i x put low all (subst (λ w. P w y) read one)

-- all of it
pub turns-whole : {A B : Type 0} (P : A → B → Type 0) (xs : List A) (ys : List B) (i : ℕ) → length xs ≤ i → InTurn P (take i xs) ys → InTurn P xs ys
turns-whole P xs ys i all so_far = subst (λ zs. InTurn P zs ys) (take_all i xs all) so_far

-- whatever the default is
pub same-element : {A : Type 0} (xs : List A) (i : ℕ) (d e : A) → i < length xs → get_or xs i d ≡ get_or xs i e
same-element [] i d e low = absurd (omega (arith, low))
same-element (x ∷ xs) zero d e low = refl
same-element (x ∷ xs) (suc i) d e low = same-element xs i d e (omega (arith, low))

-- the element at a place
pub there-at : {A : Type 0} (xs : List A) (i : ℕ) (d : A) → i < length xs → slice_get xs i ≡ Some (get_or xs i d)
there-at [] i d low = absurd (omega (arith, low))
there-at (x ∷ xs) zero d low = refl
there-at (x ∷ xs) (suc i) d low = there-at xs i d (omega (arith, low))
