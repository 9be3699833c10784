-- Two lists of which each pair at one place has something to do with each other.
use Rattle.std.proofs.Common.{◌≡◌, ℕ, suc, zero, List, [], ◌∷◌, ◌++◌, length, Some, subst, arith, refl}
use Rattle.std.specs.Prelude.{slice_get}
use Rattle.std.proofs.lemmas.List.{length-append}

module _ {A B : Type 0} (P : A → B → Type 0) where
  -- it holds at each place
  abbrev pub Each : List A → List B → Type 0
  Each xs ys = (k : ℕ) (x : A) (y : B) → slice_get xs k ≡ Some x → slice_get ys k ≡ Some y → P x y

  -- of what is the same
  here_too : (a x : A) (b y : B) → P a b → Some a ≡ Some x → Some b ≡ Some y → P x y
  here_too a x b y here first second =
      let e : a ≡ x = cc in
      let f : b ≡ y = cc in
      subst (λ (w : A). P w y) e (subst (λ (w : B). P a w) f here)

  -- one more of each after lists of one length
  pub each_push : (xs : List A) (ys : List B) (a : A) (b : B) → length ys ≡ length xs → Each xs ys → P a b → Each (xs ++ a ∷ []) (ys ++ b ∷ [])
  each_push [] [] a b same each here zero x y first second = here_too a x b y here first second
  each_push [] [] a b same each here (suc k) x y first second = absurd cc
  each_push [] (d ∷ ys) a b same each here k x y first second = absurd (omega (arith, same))
  each_push (c ∷ xs) [] a b same each here k x y first second = absurd (omega (arith, same))
  each_push (c ∷ xs) (d ∷ ys) a b same each here zero x y first second = each zero x y first second
  each_push (c ∷ xs) (d ∷ ys) a b same each here (suc k) x y first second =
      each_push xs ys a b (omega (arith, same)) (λ j. each (suc j)) here k x y first second

  -- what is at a place of the first list has a partner
  pub each_has : (xs : List A) (ys : List B) → length ys ≡ length xs → Each xs ys → (k : ℕ) (a : A) → slice_get xs k ≡ Some a → (b : B) × (slice_get ys k ≡ Some b) × P a b
  each_has [] ys same each k a there = absurd cc
  each_has (c ∷ xs) [] same each k a there = absurd (omega (arith, same))
  each_has (c ∷ xs) (d ∷ ys) same each zero a there = (d, refl, each zero a d there refl)
  each_has (c ∷ xs) (d ∷ ys) same each (suc k) a there = each_has xs ys (omega (arith, same)) (λ j. each (suc j)) k a there

-- both grow by one
pub one_more : {X Y : Type 0} (xs : List X) (x : X) (ys : List Y) (y : Y) → length ys ≡ length xs → length (ys ++ y ∷ []) ≡ length (xs ++ x ∷ [])
one_more xs x ys y same = omega (arith, length-append ys (y ∷ []), length-append xs (x ∷ []))
