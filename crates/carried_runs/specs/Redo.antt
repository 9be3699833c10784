-- Objects that do again what a run did, which only began transactions and executed operations.
use Rattle.std.specs.Prelude.{◌≡◌, ℕ, Bool, true, false, List, set, take, Some, slice_get}
use Rattle.object_trait.specs.Meaning.{Meaning}
use Rattle.object_trait.specs.Steps.{MayApply, applied}
use Rattle.object_trait.specs.declared.event.Event.{Event}
use Rattle.object_trait.specs.declared.event.EventKind.{EventKind}
use Rattle.object_trait.specs.declared.event.EventKind.TheVariants.{Begin, Op}
use Rattle.carried_runs.specs.Objects.{objects_meant, AreRepresenting}

-- a begin, or an operation
abbrev pub begins_or_works : EventKind → Bool
begins_or_works (Begin t) = true
begins_or_works (Op k t x) = true
begins_or_works _ = false

-- an operation may be done at its object
abbrev pub MayRedo : List Meaning → EventKind → Type 0
MayRedo ms (Op k t x) = (m : Meaning) × (slice_get ms x ≡ Some m) × MayApply m t k
MayRedo ms _ = Unit {0}

-- and is done there
abbrev pub Redoes : List Meaning → EventKind → List Meaning → Type 0
Redoes old (Op k t x) now = (m : Meaning) × (slice_get old x ≡ Some m) × (now ≡ set old x (applied m t k))
Redoes old _ now = now ≡ old

-- the first i events were done again
pub record AreRedone (old now : List Meaning) (events : List Event) (i : ℕ) : Type 0 where
  pub types : objects_meant now ≡ objects_meant old
  pub represent : AreRepresenting now (take i events)
