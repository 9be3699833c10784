-- When what an object means can be trusted: what each call of it needs and keeps.
use Rattle.std.specs.Prelude.{◌≡◌, ℕ, List, true, false, ◌==◌, Some}
use Rattle.std.specs.List.{AllByRecursion}
use Rattle.type_table.specs.Run.{IsLegal}
use Rattle.escrow_laws.specs.Firm.{IsFirm}
use Rattle.type_table.specs.declared.kind.Kind.{Kind}
use Rattle.type_table.specs.declared.kind.Kind.TheVariants.{Undo, Intentions, Escrow}
use Rattle.object_trait.specs.Object.{Object}
use Rattle.object_trait.specs.Orders.{Pairs}
use Rattle.object_trait.specs.Meaning.{Meaning, object, log_ops, open_of, own_of}
use Rattle.object_trait.specs.declared.log_entry.LogEntry.{LogEntry}

-- an open entry conflicts with nothing that another transaction did after it
abbrev pub IsLocked : Object → LogEntry → LogEntry → Type 0
IsLocked o held later = held.done ≡ false → (later.by == held.by) ≡ false → o.conflicts later.op held.op ≡ false

-- no done entry comes after an open one of the same transaction
abbrev pub IsInOrder : LogEntry → LogEntry → Type 0
IsInOrder entry later = entry.done ≡ false → (later.by == entry.by) ≡ true → later.done ≡ false

-- update in place: the whole log is legal from base
pub record IsSoundUndo (o : Object) (base : ℕ) (log : List LogEntry) : Type 0 where
  pub inside : o.set base ≡ true
  pub legal : IsLegal o.table (Some base) (log_ops log)
  pub in_order : Pairs IsInOrder log
  pub locked : Pairs (IsLocked o) log

-- deferred update: all entries are open, and those of each transaction are legal from base
pub record IsSoundIntentions (o : Object) (base : ℕ) (log : List LogEntry) : Type 0 where
  pub inside : o.set base ≡ true
  pub all_open : AllByRecursion (λ e. e.done ≡ false) log
  pub legal : (t : ℕ) → IsLegal o.table (Some base) (log_ops (open_of t log))
  pub locked : Pairs (IsLocked o) log

-- escrow: all entries are open, and those of each transaction are legal whatever the others do
pub record IsSoundEscrow (o : Object) (base : ℕ) (log : List LogEntry) : Type 0 where
  pub inside : o.set base ≡ true
  pub all_open : AllByRecursion (λ e. e.done ≡ false) log
  pub firm : IsFirm o.table o.amounts base (own_of log)

abbrev pub IsSoundBy : Kind → Object → ℕ → List LogEntry → Type 0
IsSoundBy Undo = IsSoundUndo
IsSoundBy Intentions = IsSoundIntentions
IsSoundBy Escrow = IsSoundEscrow

abbrev pub IsSound : Meaning → Type 0
IsSound m = IsSoundBy m.checked.kind (object m) m.base m.log
