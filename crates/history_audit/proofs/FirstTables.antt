-- The first tables of a list, and those behind them.
use Rattle.std.proofs.Common.{◌≡◌, ◌≤◌, ◌<◌, ℕ, zero, suc, List, [], ◌∷◌, length, take, ◌⊎◌, inl, inr, Some, None, slice_get, refl, sym, ap, subst, ◌∙◌, arith}
use Rattle.std.proofs.lemmas.Option.{none-some}
use Rattle.type_table.specs.Table.{Table, table_at}
use Rattle.history_judge.specs.Replay.{AreStates}
use Rattle.history_audit.specs.Epochs.{tables_at}

-- the first of the tables that begin at given states are the first, beginning at these
pub first-at : (n : ℕ) (tables : List Table) (states : List ℕ) → take n (tables_at tables states) ≡ tables_at (take n tables) states
first-at zero [] states = refl
first-at zero (T ∷ tables) [] = refl
first-at zero (T ∷ tables) (s ∷ states) = refl
first-at (suc n) [] states = refl
first-at (suc n) (T ∷ tables) [] = refl
first-at (suc n) (T ∷ tables) (s ∷ states) = ap (λ them. table_at T s ∷ them) (first-at n tables states)

-- a table is among the first, or these have none at its place
pub in-first : (n : ℕ) (tables : List Table) (x : ℕ) (T : Table) → slice_get tables x ≡ Some T → (slice_get (take n tables) x ≡ Some T) ⊎ (slice_get (take n tables) x ≡ None)
in-first n [] x T at = absurd (none-some T at)
in-first zero (U ∷ tables) x T at = inr refl
in-first (suc n) (U ∷ tables) zero T at = inl at
in-first (suc n) (U ∷ tables) (suc x) T at = in-first n tables x T at

pub in-all : (n : ℕ) (tables : List Table) (x : ℕ) (T : Table) → slice_get (take n tables) x ≡ Some T → slice_get tables x ≡ Some T
in-all zero [] x T at = absurd (none-some T at)
in-all zero (U ∷ tables) x T at = absurd (none-some T at)
in-all (suc n) [] x T at = absurd (none-some T at)
in-all (suc n) (U ∷ tables) zero T at = at
in-all (suc n) (U ∷ tables) (suc x) T at = in-all n tables x T at

pub first-there : (n : ℕ) (tables : List Table) (x : ℕ) → x < n → slice_get (take n tables) x ≡ slice_get tables x
first-there zero tables x low = absurd (omega (arith, low))
first-there (suc n) [] x low = refl
first-there (suc n) (T ∷ tables) zero low = refl
first-there (suc n) (T ∷ tables) (suc x) low = first-there n tables x (omega (arith, low))

-- the first are no more than all
pub first-within : (n : ℕ) (tables : List Table) → length (take n tables) ≤ length tables
first-within zero [] = omega arith
first-within zero (T ∷ tables) = omega arith
first-within (suc n) [] = omega arith
first-within (suc n) (T ∷ tables) = omega (arith, first-within n tables)

-- and they are the first as many
pub as-many-first : (n : ℕ) (tables : List Table) → take (length (take n tables)) tables ≡ take n tables
as-many-first zero [] = refl
as-many-first zero (T ∷ tables) = refl
as-many-first (suc n) [] = refl
as-many-first (suc n) (T ∷ tables) = ap (λ them. T ∷ them) (as-many-first n tables)

-- states of the first of the tables are those of the first as many
pub as-first : (n : ℕ) (tables : List Table) (states : List ℕ) → AreStates (take n tables) states → AreStates (take (length states) tables) states
as-first n tables states are = subst (λ them. AreStates them states) (sym (ap (λ m. take m tables) are.as_many ∙ as-many-first n tables)) are

-- one without a state is as it was
pub no-state : (tables : List Table) (states : List ℕ) (x : ℕ) → slice_get states x ≡ None → slice_get (tables_at tables states) x ≡ slice_get tables x
no-state [] states x none = refl
no-state (T ∷ tables) [] x none = refl
no-state (T ∷ tables) (s ∷ states) zero none = absurd (let clash = none in cc)
no-state (T ∷ tables) (s ∷ states) (suc x) none = no-state tables states x none

-- of as many there is none at a place where the others have none
pub missing : {A B : Type 0} (xs : List A) (ys : List B) (x : ℕ) → length ys ≡ length xs → slice_get xs x ≡ None → slice_get ys x ≡ None
missing [] [] x same none = refl
missing [] (b ∷ ys) x same none = absurd (omega (arith, same))
missing (a ∷ xs) [] x same none = refl
missing (a ∷ xs) (b ∷ ys) zero same none = absurd (let clash = none in cc)
missing (a ∷ xs) (b ∷ ys) (suc x) same none = missing xs ys x (omega (arith, same)) none
