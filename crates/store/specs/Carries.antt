-- A store that begins anew while transactions are open, some of which are carried over, perhaps with objects more.
use Rattle.std.specs.Prelude.{◌≡◌, ◌+◌, ◌<◌, ◌≤◌, ℕ, List, ◌++◌, length, true}
use Rattle.std.specs.List.{AllByRecursion}
use Rattle.table_checker.specs.Checked.{Checked}
use Rattle.object_trait.specs.Meaning.{Meaning}
use Rattle.object_trait.specs.Orders.{Pairs}
use Rattle.serial_order.specs.History.{summary, is_open}
use Rattle.serial_order.specs.Epochs.{types_at}
use Rattle.serial_order.specs.declared.entry.Entry.{Entry}
use Rattle.carried_runs.specs.Carried.{IsCarriedOrder, carried_by}
use Rattle.carried_runs.specs.OpenEpochs.{IsOpenEpoch}
use Rattle.store_laws.specs.Stored.{Stored}
use Rattle.store.specs.Ends.{AreFresh}
use Rattle.store.specs.declared.refusals.CarryRefusal.{CarryRefusal}
use Rattle.store.specs.declared.refusals.CarryRefusal.TheVariants.{NotOpen, TooManyObjects, NotFresh, NoMemory}

-- transactions that are open, in the order of their numbers, none twice
pub record MayBeCarried (those : List ℕ) (s : Stored) : Type 0 where
  pub ascend : Pairs (λ a b. a < b) those
  pub are_open : AllByRecursion (λ t. is_open (summary s.history) t ≡ true) those

-- the history so far and the committed states are an open epoch, behind which objects of these types are added. The new store is of the types at these
-- states and then of those that are added; its first events are what is carried of these transactions, by worker w, in an order that keeps that at each object
pub record Carries (old : Stored) (w : ℕ) (those : List ℕ) (added : List Checked) (new : Stored) : Type 0 where
  pub kept : List ℕ
  pub epoch : IsOpenEpoch old.types (record { history = old.history; kept = kept; added = added })
  pub order : List Entry
  pub ordered : IsCarriedOrder those old.history order
  pub is : new ≡ record { types = types_at old.types kept ++ added; history = carried_by (λ _. w) those order; limits = old.limits; forgotten = 0 }

-- why none begins, with these objects more: the first reason that holds
abbrev pub RefusesCarry : Stored → List ℕ → List Meaning → CarryRefusal → Type 0
RefusesCarry s those ms NotOpen = MayBeCarried those s → ⊥
RefusesCarry s those ms TooManyObjects = MayBeCarried those s × (s.limits.objects < length s.types + length ms)
RefusesCarry s those ms NotFresh = MayBeCarried those s × (length s.types + length ms ≤ s.limits.objects) × (AreFresh ms → ⊥)
RefusesCarry s those ms NoMemory = MayBeCarried those s × (length s.types + length ms ≤ s.limits.objects) × AreFresh ms
