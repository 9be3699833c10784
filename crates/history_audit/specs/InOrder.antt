-- What an audit in a given order of the committed transactions says: whether the order may be asked for, and whether it is legal.
use Rattle.std.specs.Prelude.{◌≡◌, ◌↔◌, ℕ, ◌<◌, List, ◌∷◌, ◌++◌, take, true, false, Some, Result, Ok, Err, IsOk, slice_get}
use Rattle.type_table.specs.Table.{Table}
use Rattle.object_trait.specs.declared.event.Event.{Event}
use Rattle.serial_order.specs.Operations.{is_among}
use Rattle.serial_order.specs.History.{commits, IsHistory}
use Rattle.serial_order.specs.Readings.{is_op_of, stays}
use Rattle.history_judge.specs.Audit.{AreLegal, LeadToStates, IsFirstBad, IsFirstIllegal}
use Rattle.history_judge.specs.declared.outcome.Audit.{Audit}
use Rattle.history_judge.specs.declared.outcome.AuditFault.TheVariants.{BadEvent, IllegalOp, NoMemory}
use Rattle.history_audit.specs.declared.in_order_fault.InOrderFault.{InOrderFault}
use Rattle.history_audit.specs.declared.in_order_fault.InOrderFault.TheVariants as no
use Rattle.history_audit.specs.declared.in_order_fault.OrderFault.{OrderFault}
use Rattle.history_audit.specs.declared.in_order_fault.OrderFault.TheVariants as order

-- ---- orders

-- t precedes u: at some object an operation of u comes after t's commit, and survives (Weihl's precedes, by operations that survive)
pub record Precedes (H : List Event) (t u : ℕ) : Type 0 where
  pub before : List Event
  pub happened : Event
  pub after : List Event
  pub whole : H ≡ before ++ happened ∷ after
  pub ended : is_among (commits before) t ≡ true
  pub operation : is_op_of u happened.kind ≡ true
  pub survives : stays u after ≡ true

-- each of these is one of the committed transactions, and none is there twice
pub record AreCommitted (committed ts : List ℕ) : Type 0 where
  pub each : (n t : ℕ) → slice_get ts n ≡ Some t → is_among committed t ≡ true
  pub once : (n t : ℕ) → slice_get ts n ≡ Some t → is_among (take n ts) t ≡ false

-- all of the committed transactions are there
abbrev pub HasAll : List ℕ → List ℕ → Type 0
HasAll committed ts = (t : ℕ) → is_among committed t ≡ true → is_among ts t ≡ true

-- those that precede the transaction at this place come before it
abbrev pub KeepsPrecedesAt : List Event → List ℕ → ℕ → Type 0
KeepsPrecedesAt H ts n = (t u : ℕ) → slice_get ts n ≡ Some u → Precedes H t u → is_among (take n ts) t ≡ true

-- an order of the committed transactions that keeps what precedes
pub record KeepsPrecedes (H : List Event) (ts : List ℕ) : Type 0 where
  pub are : AreCommitted (commits H) ts
  pub all : HasAll (commits H) ts
  pub keeps : (n : ℕ) → KeepsPrecedesAt H ts n

-- ---- which may not be asked for

-- those before t are committed transactions, none of them twice, and t isn't one
pub record IsNotCommitted (committed ts : List ℕ) (t : ℕ) : Type 0 where
  pub place : ℕ
  pub there : slice_get ts place ≡ Some t
  pub before : AreCommitted committed (take place ts)
  pub not_committed : is_among committed t ≡ false

-- or is one of those before it
pub record IsTwice (committed ts : List ℕ) (t : ℕ) : Type 0 where
  pub place : ℕ
  pub there : slice_get ts place ≡ Some t
  pub before : AreCommitted committed (take place ts)
  pub again : is_among (take place ts) t ≡ true

-- t is the least of these that isn't there
pub record IsLeastAbsent (these ts : List ℕ) (t : ℕ) : Type 0 where
  pub one : is_among these t ≡ true
  pub absent : is_among ts t ≡ false
  pub least : (u : ℕ) → u < t → is_among these u ≡ true → is_among ts u ≡ true

-- they are committed transactions, none of them twice, and t is the least that is missing
pub record IsMissing (committed ts : List ℕ) (t : ℕ) : Type 0 where
  pub are : AreCommitted committed ts
  pub missing : IsLeastAbsent committed ts t

-- they are all committed transactions, u is the first that comes before one that precedes it, and t is the least of these
pub record IsOutOfOrder (H : List Event) (ts : List ℕ) (t u : ℕ) : Type 0 where
  pub are : AreCommitted (commits H) ts
  pub all : HasAll (commits H) ts
  pub place : ℕ
  pub there : slice_get ts place ≡ Some u
  pub first : (n : ℕ) → n < place → KeepsPrecedesAt H ts n
  pub precedes : Precedes H t u
  pub after : is_among (take place ts) t ≡ false
  pub least : (v : ℕ) → v < t → Precedes H v u → is_among (take place ts) v ≡ true

abbrev pub HasOrderFault : List Event → List ℕ → OrderFault → Type 0
HasOrderFault H ts (order.NotCommitted t) = IsNotCommitted (commits H) ts t
HasOrderFault H ts (order.Twice t) = IsTwice (commits H) ts t
HasOrderFault H ts (order.Missing t) = IsMissing (commits H) ts t
HasOrderFault H ts (order.Precedes t u) = IsOutOfOrder H ts t u

-- ---- what an audit in an order says

-- the first event that is bad; or, where none is, why the order may not be asked for; or, where it may, a yes with it and with the states to
-- which it leads, or the first operation that isn't legal in it. Where memory was refused nothing is said
abbrev pub AuditsInOrder : List Table → List Event → List ℕ → Result Audit InOrderFault → Type 0
AuditsInOrder tables H ts (Ok a) = IsHistory tables H × KeepsPrecedes H ts × (a.order.items ≡ ts) × LeadToStates tables H ts a.finals.items
AuditsInOrder tables H ts (Err (no.Order fault)) = IsHistory tables H × HasOrderFault H ts fault
AuditsInOrder tables H ts (Err (no.Audit (BadEvent at))) = IsFirstBad tables H at
AuditsInOrder tables H ts (Err (no.Audit (IllegalOp i x j))) = IsHistory tables H × KeepsPrecedes H ts × IsFirstIllegal tables H ts i x j
AuditsInOrder tables H ts (Err (no.Audit NoMemory)) = Unit {0}

-- ---- laws

-- a yes, or memory was refused
abbrev pub PassesInOrder : Result Audit InOrderFault → Type 0
PassesInOrder (Ok a) = Unit {0}
PassesInOrder (Err (no.Audit NoMemory)) = Unit {0}
PassesInOrder (Err _) = ⊥

-- an order that keeps what precedes and is legal passes
abbrev pub LegalOrdersPass : Type 0
LegalOrdersPass =
    (tables : List Table) (H : List Event) (ts : List ℕ) (outcome : Result Audit InOrderFault) → IsHistory tables H → KeepsPrecedes H ts → AreLegal tables H ts
    → AuditsInOrder tables H ts outcome → PassesInOrder outcome

-- where memory wasn't refused, there is a yes exactly for an order of a history that keeps what precedes and is legal
abbrev pub InOrderDecides : Type 0
InOrderDecides =
    (tables : List Table) (H : List Event) (ts : List ℕ) (outcome : Result Audit InOrderFault) → AuditsInOrder tables H ts outcome → (outcome ≡ Err (no.Audit NoMemory) → ⊥)
    → IsOk outcome ↔ (IsHistory tables H × KeepsPrecedes H ts × AreLegal tables H ts)
