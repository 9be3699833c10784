-- What the end of a transaction, and a rollback, do to the objects at some places, and to no others.
use Rattle.std.specs.Prelude.{◌≡◌, ◌≤◌, ℕ, true, ◌==◌, List, length, filter, All, Some, slice_get}
use Rattle.std.specs.List.{list_any}
use Rattle.object_trait.specs.Meaning.{Meaning, open_of}
use Rattle.object_trait.specs.Steps.{IsCommit, IsAbort}
use Rattle.object_calls.specs.declared.end.End.{End}
use Rattle.object_calls.specs.declared.end.End.TheVariants.{Commit, Abort}

-- the place is one of these, and how often it is
abbrev pub is_at : List ℕ → ℕ → Type 0
is_at places x = list_any (λ y. y == x) places ≡ true

abbrev pub times_in : ℕ → List ℕ → ℕ
times_in x places = length (filter (λ y. y == x) places)

-- no place is counted
abbrev pub AreZero : List ℕ → Type 0
AreZero counts = All (λ count. count ≡ 0) counts

-- at these places something is changed, and nothing at any other
pub record ChangesAt {A : Type 0} (places : List ℕ) (change : ℕ → A → A → Type 0) (old new : List A) : Type 0 where
  pub as_many : length new ≡ length old
  pub changed : (x : ℕ) (a b : A) → slice_get old x ≡ Some a → slice_get new x ≡ Some b → is_at places x → change x a b
  pub others : (x : ℕ) → (is_at places x → ⊥) → slice_get new x ≡ slice_get old x

-- what an end of a transaction makes of an object
abbrev pub EndsObject : End → Meaning → ℕ → Meaning → Type 0
EndsObject Commit = IsCommit
EndsObject Abort = IsAbort

-- at each of these places t has this many operations to be struck
abbrev pub HasLast : ℕ → List ℕ → List Meaning → Type 0
HasLast t places ms = (x : ℕ) (m : Meaning) → slice_get ms x ≡ Some m → times_in x places ≤ length (open_of t m.log)
