-- The first operation of a list that distinguishes two states.
use Rattle.std.proofs.Common.{◌≡◌, ◌⊎◌, ℕ, ◌<◌, ◌≤◌, List, [], ◌∷◌, length, Option, Some, None, IsSome, refl, inl, inr, arith}
use Rattle.std.proofs.lemmas.Bool.{false≢true, cases_lt, le-ltb}
use Rattle.type_table.specs.Table.{Table, next}
use Rattle.type_table.proofs.Legal.{from_state, is_there, legal_here, legal_there}
use Rattle.exact_tables.specs.Tell.{Tells}
use Rattle.exact_tables.specs.Search.{IsToldAtOnce}

-- the empty list distinguishes no two states
pub tells-some : (T : Table) (s t : ℕ) (v : List ℕ) → Tells T (Some s) (Some t) v → 0 < length v
tells-some T s t [] tells = absurd (tells.1 refl)
tells-some T s t (k ∷ w) tells = omega arith

-- what distinguishes the next states distinguishes the states, with the operation before it
pub tells-cons : (T : Table) (s t k s2 t2 : ℕ) (w : List ℕ) → next T s k ≡ Some s2 → next T t k ≡ Some t2 → Tells T (Some s2) (Some t2) w → Tells T (Some s) (Some t) (k ∷ w)
tells-cons T s t k s2 t2 w first second tells =
    (legal_here T (next T s k) s2 w first tells.0, λ legal. tells.1 (legal_there T (next T t k) t2 w second legal))

-- an operation that is legal in s and not in t distinguishes them alone
pub tells-one : (T : Table) (s t k s2 : ℕ) → next T s k ≡ Some s2 → next T t k ≡ None → Tells T (Some s) (Some t) (k ∷ [])
tells-one T s t k s2 first second = (is_there (next T s k) s2 first, λ legal. absurd (false≢true (rw second at legal)))

-- a list that distinguishes s from t begins with an operation that is legal in s; in t it isn't, or the rest distinguishes the next states
pub record Begins (T : Table) (s t : ℕ) (v : List ℕ) : Type 0 where
  pub op : ℕ
  pub rest : List ℕ
  pub is : v ≡ op ∷ rest
  pub after_s : ℕ
  pub first : next T s op ≡ Some after_s
  pub second : (next T t op ≡ None) ⊎ ((after_t : ℕ) × (next T t op ≡ Some after_t) × Tells T (Some after_s) (Some after_t) rest)

pub tells-begins : (T : Table) (s t : ℕ) (v : List ℕ) → Tells T (Some s) (Some t) v → Begins T s t v
tells-begins T s t [] tells = absurd (tells.1 refl)
tells-begins T s t (k ∷ w) tells =
    let there = from_state T (next T s k) w tells.0 in
    record { op = k; rest = w; is = refl; after_s = there.0; first = there.1; second = by_case (next T t k) refl there.0 there.1 }
  where
    by_case : (o : Option ℕ) → next T t k ≡ o → (s2 : ℕ) → next T s k ≡ Some s2 → (next T t k ≡ None) ⊎ ((t2 : ℕ) × (next T t k ≡ Some t2) × Tells T (Some s2) (Some t2) w)
    by_case None e s2 step = inl e
    by_case (Some t2) e s2 step = inr (t2, e, (legal_there T (next T s k) s2 w step tells.0, λ legal. tells.1 (legal_here T (next T t k) t2 w e legal)))

-- ---- one operation

-- a legal operation is one of the table's
op_inside : (T : Table) (s k : ℕ) → IsSome (next T s k) → k < length T.ops
unfolding next
op_inside T s k legal =
    elim (cases_lt k (length T.ops)) [
      | inl below ↦ below
      | inr past ↦ absurd (false≢true (rw (le-ltb k (length T.ops) past) at legal))
    ]

nowhere : (o : Option ℕ) → (IsSome o → ⊥) → o ≡ None
nowhere None none = refl
nowhere (Some t) none = absurd (none refl)

-- an operation that is legal in s and not in t distinguishes them at once
pub told-here : (T : Table) (s t k : ℕ) → IsSome (next T s k) → next T t k ≡ None → IsToldAtOnce T s t
told-here T s t k legal none = (k, (legal, λ other. absurd (false≢true (rw none at other))))

-- and where none does, nothing does
pub told-nowhere : (T : Table) (s t n : ℕ) → length T.ops ≤ n → ((j : ℕ) → j < n → IsSome (next T s j) → next T t j ≡ None → ⊥) → IsToldAtOnce T s t → ⊥
told-nowhere T s t n all none told =
    let inside : told.0 < length T.ops = op_inside T s told.0 (told.1).0 in
    none told.0 (omega (arith, inside, all)) (told.1).0 (nowhere (next T t told.0) (told.1).1)
