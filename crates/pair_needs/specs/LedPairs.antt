-- How far the search has come for the pairs of states to which two ends lead.
use Rattle.std.specs.Prelude.{◌≡◌, ◌⊎◌, ◌↔◌, ℕ, ◌<◌, ◌++◌, ◌==◌, ◌&&◌, ◌||◌, Bool, true, false, not, List, [], ◌∷◌, length, Option, Some, slice_get}
use Rattle.equi_cert.specs.Relation.{relates}
use Rattle.type_table.specs.ConflictTable.{IsSquare}
use Rattle.type_table.specs.Run.{run}
use Rattle.type_table.specs.Table.{Table, IsTable, next}
use Rattle.type_table.specs.declared.table_kind.TableKind.{TableKind}
use Rattle.type_table.specs.declared.table_kind.TableKind.TheVariants.{Undo, Intentions}
use Rattle.pair_needs.specs.Leads.{IsLedTo}
use Rattle.pair_needs.specs.Mends.{IsLedFromEnds, IsBefore}
use Rattle.pair_needs.specs.Search.{IsDone}
use Rattle.pair_needs.specs.declared.ends.Pair.{Pair}
use Rattle.pair_needs.specs.declared.leads.Lead.{Lead}
use Rattle.pair_needs.specs.declared.mends.LedPairs.{LedPairs}

-- the same operations lead to these two from the ends of the pair at a state to which some list leads
pub record IsLedPair (T : Table) (pair : Pair) (a b : ℕ) : Type 0 where
  pub state : ℕ
  pub led : IsLedTo T state
  pub after : IsLedFromEnds pair.kind T pair.p pair.q state a b

-- the ends of the pair at s, with deferred update in either order
abbrev pub AreEndsBy : TableKind → Option ℕ → Option ℕ → ℕ → ℕ → Type 0
AreEndsBy Undo x y a b = (x ≡ Some a) × (y ≡ Some b)
AreEndsBy Intentions x y a b = ((x ≡ Some a) × (y ≡ Some b)) ⊎ ((y ≡ Some a) × (x ≡ Some b))

abbrev pub IsEnd : Table → Pair → ℕ → ℕ → ℕ → Type 0
IsEnd T pair s a b = AreEndsBy pair.kind (run T (Some s) (pair.q ∷ pair.p ∷ [])) (run T (Some s) (pair.p ∷ pair.q ∷ [])) a b

-- the pair of states was found
abbrev pub IsFoundPair : List (ℕ × ℕ) → ℕ → ℕ → Type 0
IsFoundPair found a b = (i : ℕ) × (slice_get found i ≡ Some (a, b))

-- or its states are equal
abbrev pub IsKnownPair : List (ℕ × ℕ) → ℕ → ℕ → Type 0
IsKnownPair found a b = (a ≡ b) ⊎ IsFoundPair found a b

-- the ends lead to all that was found; from each place before i, and from i by the operations below k, the next pairs were found
pub record AreGathered (T : Table) (i k : ℕ) (b : LedPairs) : Type 0 where
  pub table : IsTable T
  pub square : IsSquare T.states b.seen
  pub inside : (n x y : ℕ) → slice_get b.found.items n ≡ Some (x, y) → (x < T.states) × (y < T.states)
  pub sound : (n x y : ℕ) → slice_get b.found.items n ≡ Some (x, y) → IsLedPair T b.pair x y
  pub same : (x y : ℕ) → x < T.states → y < T.states → (relates b.seen x y ≡ true) ↔ IsKnownPair b.found.items x y
  pub followed :
      (n x y j x2 y2 : ℕ) → slice_get b.found.items n ≡ Some (x, y) → IsDone i k n j → next T x j ≡ Some x2 → next T y j ≡ Some y2
      → IsKnownPair b.found.items x2 y2

-- what is known stays known
abbrev pub KeepsPairs : LedPairs → LedPairs → Type 0
KeepsPairs old new = (x y : ℕ) → IsKnownPair old.found.items x y → IsKnownPair new.found.items x y

-- the pair of states was added, where it wasn't known
pub record IsAdded (x y : ℕ) (old new : LedPairs) : Type 0 where
  pub pair : new.pair ≡ old.pair
  pub found : new.found.items ≡ old.found.items ++ (x, y) ∷ []
  pub seen : (a b : ℕ) → relates new.seen a b ≡ (relates old.seen a b || (a == x && b == y))
  pub square : IsSquare (length old.seen) new.seen

abbrev pub Adds : ℕ → ℕ → LedPairs → LedPairs → Type 0
Adds x y old new = ((relates old.seen x y ≡ true) × (new ≡ old)) ⊎ ((relates old.seen x y ≡ false) × IsAdded x y old new)

-- the ends at s were added
pub record IsBegun (T : Table) (s : ℕ) (old new : LedPairs) : Type 0 where
  pub gathered : AreGathered T 0 0 new
  pub ends : (a c : ℕ) → IsEnd T old.pair s a c → IsKnownPair new.found.items a c
  pub kept : KeepsPairs old new
  pub pair : new.pair ≡ old.pair

-- the ends at the states of the first n lists are known
abbrev pub HasEnds : Table → Pair → List Lead → ℕ → LedPairs → Type 0
HasEnds T pair leads n b =
    (i a c : ℕ) (l : Lead) → i < n → slice_get leads i ≡ Some l → IsEnd T pair l.state a c → IsKnownPair b.found.items a c

-- all of them were gathered: the pairs to which the ends lead, where the states aren't equal
pub record AreAllLed (T : Table) (b : LedPairs) : Type 0 where
  pub square : IsSquare T.states b.seen
  pub sound : (x y : ℕ) → IsFoundPair b.found.items x y → IsLedPair T b.pair x y
  pub inside : (x y : ℕ) → IsFoundPair b.found.items x y → (x < T.states) × (y < T.states)
  pub same : (x y : ℕ) → x < T.states → y < T.states → (relates b.seen x y ≡ true) ↔ IsKnownPair b.found.items x y
  pub all : (x y : ℕ) → IsLedPair T b.pair x y → IsKnownPair b.found.items x y

-- ---- in ascending order

-- the pair is seen and isn't of the file's relation
abbrev pub is_lacking : List (List Bool) → List (List Bool) → ℕ → ℕ → Bool
is_lacking seen relation x y = relates seen x y && not (relates relation x y)

-- of the pairs of states before (a, b) these are the ones that pass a test, in order
pub record AreListed (test : ℕ → ℕ → Bool) (states a b : ℕ) (pairs : List (ℕ × ℕ)) : Type 0 where
  pub each : (n x y : ℕ) → slice_get pairs n ≡ Some (x, y) → (test x y ≡ true) × IsBefore (x, y) (a, b)
  pub inside : (n x y : ℕ) → slice_get pairs n ≡ Some (x, y) → (x < states) × (y < states)
  pub all : (x y : ℕ) → y < states → test x y ≡ true → IsBefore (x, y) (a, b) → IsFoundPair pairs x y
  pub ascending : (m n : ℕ) (x y : ℕ × ℕ) → m < n → slice_get pairs m ≡ Some x → slice_get pairs n ≡ Some y → IsBefore x y
