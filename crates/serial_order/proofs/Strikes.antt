-- Strikes: what a strike leaves of a list, and of the parts of it that filters keep.
use Rattle.std.proofs.Common.{◌≡◌, ℕ, zero, suc, Bool, true, false, cond, not, List, [], ◌∷◌, ◌++◌, filter, take, length, refl, ap, inl, inr}
use Rattle.std.specs.List.{AllByRecursion}
use Rattle.std.proofs.lemmas.Bool.{cases_Bool}
use Rattle.object_trait.specs.Strike.{keep_first}

-- a strike leaves a front that has none of mine
pub keep_first-behind : {E : Type 0} (mine : E → Bool) (n : ℕ) (V W : List E) → AllByRecursion (λ x. mine x ≡ false) V → keep_first mine n (V ++ W) ≡ V ++ keep_first mine n W
keep_first-behind mine n [] W p = refl
keep_first-behind mine n (x ∷ V) W p = rw (p.0) (ap (λ rest. x ∷ rest) (keep_first-behind mine n V W p.1))

-- a strike leaves what isn't mine
pub keep_first-others : {E : Type 0} (test mine : E → Bool) (n : ℕ) (V : List E) → ((e : E) → mine e ≡ true → test e ≡ false) → filter test (keep_first mine n V) ≡ filter test V
keep_first-others test mine n [] apart = refl
keep_first-others test mine zero (e ∷ V) apart =
    elim (cases_Bool (mine e)) [
      | inl is ↦ simp (is, apart e is) (keep_first-others test mine zero V apart)
      | inr isnt ↦ rw isnt (ap (λ rest. cond (test e) (e ∷ rest) rest) (keep_first-others test mine zero V apart))
    ]
keep_first-others test mine (suc n) (e ∷ V) apart =
    elim (cases_Bool (mine e)) [
      | inl is ↦ rw is (ap (λ rest. cond (test e) (e ∷ rest) rest) (keep_first-others test mine n V apart))
      | inr isnt ↦ rw isnt (ap (λ rest. cond (test e) (e ∷ rest) rest) (keep_first-others test mine (suc n) V apart))
    ]

-- a strike in any part: of mine there stay those of the first n that are in it
pub keep_first-part : {E : Type 0} (test mine : E → Bool) (n : ℕ) (V : List E) → filter test (keep_first mine n V) ≡ keep_first mine (length (filter test (take n (filter mine V)))) (filter test V)
keep_first-part test mine n [] = refl
keep_first-part test mine zero (e ∷ V) =
    elim (cases_Bool (mine e)) [
      | inl is ↦ elim (cases_Bool (test e)) [
        | inl passes ↦ simp (is, passes) (keep_first-part test mine zero V)
        | inr fails ↦ simp (is, fails) (keep_first-part test mine zero V)
      ]
      | inr isnt ↦ elim (cases_Bool (test e)) [
        | inl passes ↦ simp (isnt, passes) (ap (λ rest. e ∷ rest) (keep_first-part test mine zero V))
        | inr fails ↦ simp (isnt, fails) (keep_first-part test mine zero V)
      ]
    ]
keep_first-part test mine (suc n) (e ∷ V) =
    elim (cases_Bool (mine e)) [
      | inl is ↦ elim (cases_Bool (test e)) [
        | inl passes ↦ simp (is, passes) (ap (λ rest. e ∷ rest) (keep_first-part test mine n V))
        | inr fails ↦ simp (is, fails) (keep_first-part test mine n V)
      ]
      | inr isnt ↦ elim (cases_Bool (test e)) [
        | inl passes ↦ simp (isnt, passes) (ap (λ rest. e ∷ rest) (keep_first-part test mine (suc n) V))
        | inr fails ↦ simp (isnt, fails) (keep_first-part test mine (suc n) V)
      ]
    ]

-- a strike in a part that has all of mine
pub keep_first-within : {E : Type 0} (test mine : E → Bool) (n : ℕ) (V : List E) → ((e : E) → mine e ≡ true → test e ≡ true) → filter test (keep_first mine n V) ≡ keep_first mine n (filter test V)
keep_first-within test mine n [] within = refl
keep_first-within test mine zero (e ∷ V) within =
    elim (cases_Bool (mine e)) [
      | inl is ↦ simp (is, within e is) (keep_first-within test mine zero V within)
      | inr isnt ↦ elim (cases_Bool (test e)) [
        | inl passes ↦ simp (isnt, passes) (ap (λ rest. e ∷ rest) (keep_first-within test mine zero V within))
        | inr fails ↦ simp (isnt, fails) (keep_first-within test mine zero V within)
      ]
    ]
keep_first-within test mine (suc n) (e ∷ V) within =
    elim (cases_Bool (mine e)) [
      | inl is ↦ simp (is, within e is) (ap (λ rest. e ∷ rest) (keep_first-within test mine n V within))
      | inr isnt ↦ elim (cases_Bool (test e)) [
        | inl passes ↦ simp (isnt, passes) (ap (λ rest. e ∷ rest) (keep_first-within test mine (suc n) V within))
        | inr fails ↦ simp (isnt, fails) (keep_first-within test mine (suc n) V within)
      ]
    ]

-- of mine the first n stay
pub keep_first-mine : {E : Type 0} (mine : E → Bool) (n : ℕ) (V : List E) → filter mine (keep_first mine n V) ≡ take n (filter mine V)
keep_first-mine mine zero [] = refl
keep_first-mine mine (suc n) [] = refl
keep_first-mine mine zero (e ∷ V) =
    elim (cases_Bool (mine e)) [
      | inl is ↦ rw is (keep_first-mine mine zero V)
      | inr isnt ↦ simp isnt (keep_first-mine mine zero V)
    ]
keep_first-mine mine (suc n) (e ∷ V) =
    elim (cases_Bool (mine e)) [
      | inl is ↦ simp is (ap (λ rest. e ∷ rest) (keep_first-mine mine n V))
      | inr isnt ↦ simp isnt (keep_first-mine mine (suc n) V)
    ]

-- where none of mine stays, a strike is a filter
pub keep_first-none : {E : Type 0} (mine : E → Bool) (V : List E) → keep_first mine 0 V ≡ filter (λ e. not (mine e)) V
keep_first-none mine [] = refl
keep_first-none mine (e ∷ V) =
    elim (cases_Bool (mine e)) [
      | inl is ↦ rw is (keep_first-none mine V)
      | inr isnt ↦ rw isnt (ap (λ rest. e ∷ rest) (keep_first-none mine V))
    ]
