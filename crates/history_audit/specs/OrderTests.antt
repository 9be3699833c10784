-- What the tests of an order keep.
use Rattle.std.specs.Prelude.{◌≡◌, ◌<◌, ◌≤◌, ◌↔◌, ℕ, List, Bool, true, false, length, take, get_or, Some, Result, Ok, Err, slice_get}
use Rattle.type_table.specs.Table.{Table}
use Rattle.object_trait.specs.declared.event.Event.{Event}
use Rattle.serial_order.specs.Operations.{is_among}
use Rattle.serial_order.specs.History.{commits}
use Rattle.history_judge.specs.Audit.{LeadToStates, IsFirstIllegal}
use Rattle.history_audit.specs.InOrder.{HasOrderFault, Precedes}
use Rattle.history_audit.specs.declared.in_order_fault.InOrderFault.{InOrderFault}
use Rattle.history_audit.specs.declared.in_order_fault.InOrderFault.TheVariants as no
use Rattle.history_judge.specs.declared.outcome.Audit.{Audit}
use Rattle.history_judge.specs.declared.outcome.AuditFault.{AuditFault}
use Rattle.history_judge.specs.declared.outcome.AuditFault.TheVariants.{BadEvent, IllegalOp, NoMemory}

-- why a test stops: the order may not be asked for, or memory was refused
abbrev pub StopsOrder : List Event → List ℕ → InOrderFault → Type 0
StopsOrder H ts (no.Order fault) = HasOrderFault H ts fault
StopsOrder H ts (no.Audit (BadEvent at)) = ⊥
StopsOrder H ts (no.Audit (IllegalOp i x j)) = ⊥
StopsOrder H ts (no.Audit NoMemory) = Unit {0}

-- ---- which are there

-- a transaction is marked where it is one of these
abbrev pub AreMarked : List ℕ → List Bool → Type 0
AreMarked ts there = (t : ℕ) → t < length there → get_or there t false ≡ is_among ts t

-- all of these are marked
abbrev pub AllMarked : List ℕ → List Bool → Type 0
AllMarked these there = (t : ℕ) → is_among these t ≡ true → get_or there t false ≡ true

-- t is the least of these that isn't
pub record IsLeastUnmarked (these : List ℕ) (there : List Bool) (t : ℕ) : Type 0 where
  pub one : is_among these t ≡ true
  pub unmarked : get_or there t false ≡ false
  pub least : (u : ℕ) → u < t → is_among these u ≡ true → get_or there u false ≡ true

-- ---- dates

-- exactly the first so many that committed precede u
pub record IsDate (H : List Event) (u date : ℕ) : Type 0 where
  pub inside : date ≤ length (commits H)
  pub exact : (t : ℕ) → Precedes H t u ↔ (is_among (take date (commits H)) t ≡ true)

-- and so of each that committed
abbrev pub AreDates : List Event → List ℕ → Type 0
AreDates H dates = (u : ℕ) → is_among (commits H) u ≡ true → IsDate H u (get_or dates u 0)

-- those that committed before the date of the transaction at this place come before it
abbrev pub KeepsDatesAt : List ℕ → List ℕ → List ℕ → ℕ → Type 0
KeepsDatesAt committed dates ts n = (t u : ℕ) → slice_get ts n ≡ Some u → is_among (take (get_or dates u 0) committed) t ≡ true → is_among (take n ts) t ≡ true

-- ---- the run

-- what comes of the operations in this order
abbrev pub RunsInOrder : List Table → List Event → List ℕ → Result Audit AuditFault → Type 0
RunsInOrder tables H ts (Ok a) = (a.order.items ≡ ts) × LeadToStates tables H ts a.finals.items
RunsInOrder tables H ts (Err (BadEvent at)) = ⊥
RunsInOrder tables H ts (Err (IllegalOp i x j)) = IsFirstIllegal tables H ts i x j
RunsInOrder tables H ts (Err NoMemory) = Unit {0}
