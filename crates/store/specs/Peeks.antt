-- What a transaction that only reads is answered.
use Rattle.std.specs.Prelude.{◌≡◌, ℕ, ◌<◌, ◌^◌, List, Option, Some, None, Result, Ok, Err, slice_get}
use Rattle.type_table.specs.Table.{first_op}
use Rattle.table_checker.specs.Checked.{Checked, IsChecked}
use Rattle.object_trait.specs.Object.{Object}
use Rattle.object_trait.specs.Meaning.{Meaning}
use Rattle.object_trait.specs.Committed.{committed_of}
use Rattle.object_trait.specs.Sound.{IsSound}
use Rattle.committed_reads.specs.Still.{IsStillCall}
use Rattle.committed_reads.specs.Readers.{IsReadOf}
use Rattle.object_calls.specs.Replies.{reply_at}
use Rattle.store_laws.specs.Stored.{Stored, objects}
use Rattle.store.specs.CommittedStates.{IsCommittedState}
use Rattle.store.specs.declared.refusals.PeekRefusal.{PeekRefusal}
use Rattle.store.specs.declared.refusals.PeekRefusal.TheVariants.{NoObject, NoCall, Changes}

-- ---- at an object

-- not each operation of the call passes the test
abbrev pub ChangesSomething : Checked → ℕ → Type 0
ChangesSomething checked c = IsStillCall checked c → ⊥

-- what is found is the first operation of the call c, in table order, that is legal in the committed state. No operation of the call changes anything
pub record IsFoundAt (m : Meaning) (c : ℕ) (found : Option ℕ) : Type 0 where
  pub still : IsStillCall m.checked c
  pub state : ℕ
  pub committed : committed_of m ≡ Some state
  pub fits : state < 2 ^ 32
  pub reply : found ≡ reply_at m.checked.file.table state c

abbrev pub ComesAt : Meaning → ℕ → Result (Option ℕ) PeekRefusal → Type 0
ComesAt m c (Ok found) = IsFoundAt m c found
ComesAt m c (Err Changes) = ChangesSomething m.checked c
ComesAt m c (Err r) = ⊥

-- ---- at a store

-- an object of this meaning is the one at x: its type was checked, its meaning is sound, and what it has is a committed state
pub record IsObjectAt (s : Stored) (x : ℕ) (m : Meaning) : Type 0 where
  pub there : slice_get s.types x ≡ Some m.checked
  pub checked : IsChecked m.checked
  pub sound : IsSound m
  pub committed : (state : ℕ) → committed_of m ≡ Some state → state < 2 ^ 32 → IsCommittedState s x state

-- the object at x is of this type, has this committed state, and its call with this name has this first operation
pub record IsPeekedAt (s : Stored) (x : ℕ) (name : List ℕ) (checked : Checked) (c : ℕ) : Type 0 where
  pub there : slice_get s.types x ≡ Some checked
  pub named : first_op checked.file.table name ≡ Some c

-- what is found is the reply that a transaction gets which only reads committed states: a read of it, whatever its number
pub record IsPeeked (s : Stored) (x : ℕ) (name : List ℕ) (found : Option ℕ) : Type 0 where
  pub checked : Checked
  pub c : ℕ
  pub at : IsPeekedAt s x name checked c
  pub still : IsStillCall checked c
  pub state : ℕ
  pub committed : IsCommittedState s x state
  pub reply : found ≡ reply_at checked.file.table state c
  pub reads : (k : ℕ) → found ≡ Some k → (kept : List ℕ) (r : ℕ) → slice_get kept x ≡ Some state → IsReadOf (objects s) kept r (record { by = r; at = x; op = k })

-- or why there is none
abbrev pub ComesOfPeek : Stored → ℕ → List ℕ → Result (Option ℕ) PeekRefusal → Type 0
ComesOfPeek s x name (Ok found) = IsPeeked s x name found
ComesOfPeek s x name (Err NoObject) = slice_get (objects s) x ≡ None
ComesOfPeek s x name (Err NoCall) = (o : Object) × (slice_get (objects s) x ≡ Some o) × (first_op o.table name ≡ None)
ComesOfPeek s x name (Err Changes) = (checked : Checked) × (c : ℕ) × IsPeekedAt s x name checked c × ChangesSomething checked c
