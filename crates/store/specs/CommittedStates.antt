-- The committed states of the objects of a store.
use Rattle.std.specs.Prelude.{◌≡◌, ℕ, ◌<◌, ◌^◌, List, map, length, All, Some, slice_get}
use Rattle.object_trait.specs.Object.{Object}
use Rattle.object_trait.specs.Meaning.{Meaning}
use Rattle.object_trait.specs.Committed.{committed_of}
use Rattle.committed_states.specs.Committed.{IsCommitted, AreCommittedStates, AgreesWithSerial}
use Rattle.store_laws.specs.Stored.{Stored, objects}

-- the state is a committed state of the object at x after the history. So it agrees with the serial state. It has 32 bits
pub record IsCommittedState (s : Stored) (x state : ℕ) : Type 0 where
  pub o : Object
  pub there : slice_get (objects s) x ≡ Some o
  pub committed : IsCommitted o state x s.history
  pub agrees : AgreesWithSerial o state x s.history
  pub fits : state < 2 ^ 32

-- for each object its committed state: what a transaction reads that only reads committed states
pub record IsSnapshot (s : Stored) (states : List ℕ) : Type 0 where
  pub as_many : length states ≡ length (objects s)
  pub each : (x state : ℕ) → slice_get states x ≡ Some state → IsCommittedState s x state
  pub read : AreCommittedStates (objects s) states s.history

-- the committed states of objects of these meanings
pub record HaveCommitted (ms : List Meaning) (states : List ℕ) : Type 0 where
  pub exact : map committed_of ms ≡ map Some states
  pub fit : All (λ state. state < 2 ^ 32) states
