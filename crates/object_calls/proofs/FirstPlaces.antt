-- The first place of a list that passes a test, and what is there.
use Rattle.std.proofs.Common.{◌≡◌, ℕ, ◌+◌, ◌<◌, Bool, true, false, not, cond, List, [], ◌∷◌, ◌++◌, length, get_or, set, Option, Some, None, is_some, ◌≢◌, ◌⊎◌, refl, sym, ap, ◌∙◌, inl, inr, length-set, get_or-set_same, get_or-set_other, arith}
use Rattle.std.specs.Prelude.{slice_get}
use Rattle.std.specs.List.{position, position_or_len, find}
use Rattle.std.proofs.lemmas.Bool.{false≢true, cases_Bool, cases_lt, cases_eq, ltb-true, lt-ltb, le-ltb, eq-eqb, ne_eqb, cond-true, cond-false}
use Rattle.std.proofs.lemmas.List.{length_push}
use Rattle.std.proofs.lemmas.List.Folds.{position_or_len_push, position_or_len-set, find_at}
use Rattle.std.proofs.lemmas.List.Sums.{prefix_len-le-length, fails_before_first, passes_at_first}
use Rattle.std.proofs.lemmas.Option.{cond_some, none-some, slice_get-get_or, slice_get_within, get_or_from_slice_get, slice_get_cases}

module _ {A : Type 0} (p : A → Bool) (xs : List A) where
  -- ---- the place is known

  -- it is where the first elements that fail end
  pub place_is : (i : ℕ) → position p xs ≡ Some i → position_or_len p xs ≡ i
  place_is i found = (cond_some _ _ i found).1

  -- inside the list
  pub place_within : (i : ℕ) → position p xs ≡ Some i → i < length xs
  place_within i found = omega (arith, ltb-true _ _ (cond_some _ _ i found).0, place_is i found)

  -- what is there passes
  pub place_passes : (i : ℕ) (x : A) → position p xs ≡ Some i → slice_get xs i ≡ Some x → p x ≡ true
  place_passes i x found at =
      let below : position_or_len p xs < length xs = omega (arith, place_is i found, place_within i found) in
      ap p (sym (get_or_from_slice_get xs i x x at)) ∙ ap (λ j. p (get_or xs j x)) (sym (place_is i found)) ∙ passes_at_first p xs x below

  -- and such a place is found
  pub place_from : (i : ℕ) → position_or_len p xs ≡ i → i < length xs → position p xs ≡ Some i
  place_from i is below = cond-true _ _ _ (lt-ltb (position_or_len p xs) (length xs) (omega (arith, is, below))) ∙ ap Some is

  -- ---- nothing passes

  -- where all elements fail nothing is found
  pub missing_from : position_or_len p xs ≡ length xs → position p xs ≡ None
  missing_from is = cond-false _ _ _ (le-ltb (position_or_len p xs) (length xs) (omega (arith, is)))

  -- and where nothing is found all fail
  pub missing_is : position p xs ≡ None → position_or_len p xs ≡ length xs
  missing_is none =
      elim (cases_lt (position_or_len p xs) (length xs)) [
        | inl below ↦ absurd (none-some _ (sym none ∙ place_from (position_or_len p xs) refl below))
        | inr past ↦ omega (arith, past, prefix_len-le-length (λ x. not (p x)) xs)
      ]

  -- so each of them fails
  pub missing_fails : (k : ℕ) (x : A) → position p xs ≡ None → slice_get xs k ≡ Some x → p x ≡ false
  missing_fails k x none at =
      let before : k < position_or_len p xs = omega (arith, missing_is none, slice_get_within xs k x at) in
      ap p (sym (get_or_from_slice_get xs k x x at)) ∙ fails_before_first p xs k x before

  -- ---- what is found

  -- it is at the first place
  pub find-place : (x : A) → find p xs ≡ Some x → position p xs ≡ Some (position_or_len p xs)
  find-place x found = place_from (position_or_len p xs) refl (slice_get_within xs (position_or_len p xs) x (sym (find_at p xs) ∙ found))

  -- nothing is found where there is no place
  pub find-missing : find p xs ≡ None → position p xs ≡ None
  find-missing none =
      elim (slice_get_cases xs (position_or_len p xs)).1 [
        | inl there ↦ absurd (none-some there.0 (sym none ∙ find_at p xs ∙ there.2))
        | inr past ↦ missing_from (omega (arith, past.0, prefix_len-le-length (λ x. not (p x)) xs))
      ]

  -- what passes somewhere is found
  pub find-some : (k : ℕ) (x : A) → slice_get xs k ≡ Some x → p x ≡ true → is_some (find p xs) ≡ true
  find-some k x at passes = found_or (find p xs) refl where
    found_or : (o : Option A) → find p xs ≡ o → is_some o ≡ true
    found_or (Some y) is = refl
    found_or None none = absurd (false≢true (sym (missing_fails k x (find-missing none) at) ∙ passes))

-- ---- one element more

module _ {A : Type 0} (p : A → Bool) (xs : List A) (y : A) where
  -- the place that was found stays the first
  pub place_stays : (i : ℕ) → position p xs ≡ Some i → position p (xs ++ y ∷ []) ≡ Some i
  place_stays i found =
      let apart : position_or_len p xs ≡ length xs → ⊥ = λ e. omega (arith, e, place_is p xs i found, place_within p xs i found) in
      let is : position_or_len p (xs ++ y ∷ []) ≡ i = position_or_len_push p xs y ∙ cond-false _ _ _ (ne_eqb _ _ apart) ∙ place_is p xs i found in
      place_from p (xs ++ y ∷ []) i is (omega (arith, place_within p xs i found, length_push xs y))

  -- where nothing passed before, the new one is looked at
  last_of : (passes : Bool) → position p xs ≡ None → p y ≡ passes → position_or_len p (xs ++ y ∷ []) ≡ length xs + cond passes 0 1
  last_of passes none is = position_or_len_push p xs y ∙ cond-true _ _ _ (eq-eqb _ _ (missing_is p xs none)) ∙ ap (λ b. length xs + cond b 0 1) is

  -- the new one is the first
  pub place_pushed : position p xs ≡ None → p y ≡ true → position p (xs ++ y ∷ []) ≡ Some (length xs)
  place_pushed none passes = place_from p (xs ++ y ∷ []) (length xs) (omega (arith, last_of true none passes)) (omega (arith, length_push xs y))

  -- nothing passes
  pub missing_pushed : position p xs ≡ None → p y ≡ false → position p (xs ++ y ∷ []) ≡ None
  missing_pushed none fails = missing_from p (xs ++ y ∷ []) (omega (arith, last_of false none fails, length_push xs y))

  -- and didn't before
  pub missing_before : position p (xs ++ y ∷ []) ≡ None → position p xs ≡ None
  missing_before none =
      elim (cases_lt (position_or_len p xs) (length xs)) [
        | inl below ↦ absurd (none-some _ (sym none ∙ place_stays (position_or_len p xs) (place_from p xs (position_or_len p xs) refl below)))
        | inr past ↦ missing_from p xs (omega (arith, past, prefix_len-le-length (λ x. not (p x)) xs))
      ]

  -- nor does the new one
  pub missing_last : position p (xs ++ y ∷ []) ≡ None → p y ≡ false
  missing_last none =
      elim (cases_Bool (p y)) [
        | inl passes ↦ absurd (none-some _ (sym none ∙ place_pushed (missing_before none) passes))
        | inr fails ↦ fails
      ]

-- ---- another list with the same answers

-- an element is written over another that answers the same
pub position-set : {A : Type 0} (p : A → Bool) (xs : List A) (i : ℕ) (y : A) → p y ≡ p (get_or xs i y) → position p (set xs i y) ≡ position p xs
position-set p xs i y same = rw (position_or_len-set p xs i y y same, length-set xs i y) refl

-- ---- what is at a place of a list that was written

-- the written element, or what was there
pub at_written : {A : Type 0} (xs : List A) (i : ℕ) (y : A) (j : ℕ) (e : A) → slice_get (set xs i y) j ≡ Some e → ((j ≡ i) × (e ≡ y)) ⊎ ((j ≢ i) × (slice_get xs j ≡ Some e))
at_written xs i y j e at =
    let read : get_or (set xs i y) j e ≡ e = get_or_from_slice_get (set xs i y) j e e at in
    let below : j < length xs = omega (arith, slice_get_within (set xs i y) j e at, length-set xs i y) in
    elim (cases_eq j i) [
      | inl here ↦ inl (here, sym read ∙ ap (λ k. get_or (set xs i y) k e) here ∙ get_or-set_same xs i y e (omega (arith, here, below)))
      | inr other ↦ inr (other, slice_get-get_or xs j e below ∙ ap Some (sym (get_or-set_other xs i j y e other) ∙ read))
    ]
