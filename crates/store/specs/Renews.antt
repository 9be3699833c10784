-- A store that begins anew at the states that it kept.
use Rattle.std.specs.Prelude.{◌≡◌, ℕ, ◌+◌, ◌<◌, ◌≤◌, ◌^◌, List, [], ◌++◌, length, true, false, Option, Some, slice_get}
use Rattle.table_checker.specs.At.{checked_at, IsInside}
use Rattle.object_trait.specs.Meaning.{Meaning}
use Rattle.object_trait.specs.Steps.{IsFresh}
use Rattle.serial_order.specs.History.{summary, is_open}
use Rattle.serial_order.specs.Epochs.{IsEpoch, types_at}
use Rattle.store_laws.specs.Stored.{Stored}
use Rattle.store.specs.KeptState.{IsKeptState}
use Rattle.table_checker.specs.Checked.{Checked}
use Rattle.store.specs.Ends.{AreFresh}
use Rattle.store.specs.declared.refusals.ExtendRefusal.{ExtendRefusal}
use Rattle.store.specs.declared.refusals.ExtendRefusal.TheVariants as extend
use Rattle.store.specs.declared.refusals.RenewRefusal.{RenewRefusal}
use Rattle.store.specs.declared.refusals.RenewRefusal.TheVariants.{StillOpen, NoMemory}

-- ---- an object

-- as it is made of its type at s
pub record IsRenewedAt (m : Meaning) (s : ℕ) (new : Meaning) : Type 0 where
  pub fits : s < 2 ^ 32
  pub fresh : IsFresh new
  pub checked : new.checked ≡ checked_at m.checked s

-- at one of its states, as `the_state`: the one that is kept, or the committed one
pub record IsRenewed (the_state : Meaning → Option ℕ) (m new : Meaning) : Type 0 where
  pub state : ℕ
  pub is : the_state m ≡ Some state
  pub renewed : IsRenewedAt m state new

pub record AreRenewed (the_state : Meaning → Option ℕ) (ms now : List Meaning) : Type 0 where
  pub as_many : length now ≡ length ms
  pub each : (x : ℕ) (m new : Meaning) → slice_get ms x ≡ Some m → slice_get now x ≡ Some new → IsRenewed the_state m new

-- at each such state its type may begin
abbrev pub AreBeginStates : (Meaning → Option ℕ) → List Meaning → Type 0
AreBeginStates the_state ms = (x : ℕ) (m : Meaning) (s : ℕ) → slice_get ms x ≡ Some m → the_state m ≡ Some s → IsInside m.checked s

-- ---- a store

-- the history so far and the states that were kept are an epoch, and the new store is of the types at these states, with no event yet
pub record Renews (old new : Stored) : Type 0 where
  pub kept : List ℕ
  pub as_many : length kept ≡ length old.types
  pub states : (x s : ℕ) → slice_get kept x ≡ Some s → IsKeptState old x s
  pub epoch : IsEpoch old.types (record { history = old.history; kept = kept; added = [] })
  pub is : new ≡ record { types = types_at old.types kept; history = []; limits = old.limits; forgotten = 0 }

-- the same where objects of these types are added: the new store has them after the others
pub record Extends (old : Stored) (added : List Checked) (new : Stored) : Type 0 where
  pub kept : List ℕ
  pub as_many : length kept ≡ length old.types
  pub states : (x s : ℕ) → slice_get kept x ≡ Some s → IsKeptState old x s
  pub epoch : IsEpoch old.types (record { history = old.history; kept = kept; added = added })
  pub is : new ≡ record { types = types_at old.types kept ++ added; history = []; limits = old.limits; forgotten = 0 }

-- why none begins: a transaction is open, or none is and memory was refused
abbrev pub RefusesRenew : Stored → RenewRefusal → Type 0
RefusesRenew s StillOpen = (t : ℕ) × (is_open (summary s.history) t ≡ true)
RefusesRenew s NoMemory = (t : ℕ) → is_open (summary s.history) t ≡ false

-- why none begins with these objects more: the first reason that holds
abbrev pub RefusesExtend : Stored → List Meaning → ExtendRefusal → Type 0
RefusesExtend s ms extend.StillOpen = (t : ℕ) × (is_open (summary s.history) t ≡ true)
RefusesExtend s ms extend.TooManyObjects = ((t : ℕ) → is_open (summary s.history) t ≡ false) × (s.limits.objects < length s.types + length ms)
RefusesExtend s ms extend.NotFresh = ((t : ℕ) → is_open (summary s.history) t ≡ false) × (length s.types + length ms ≤ s.limits.objects) × (AreFresh ms → ⊥)
RefusesExtend s ms extend.NoMemory = ((t : ℕ) → is_open (summary s.history) t ≡ false) × (length s.types + length ms ≤ s.limits.objects) × AreFresh ms
