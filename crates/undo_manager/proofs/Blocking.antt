-- The log says who blocks.
use Rattle.std.proofs.Common.{◌≡◌, ℕ, ◌<◌, not, ◌&&◌, ◌==◌, List, [], ◌∷◌, length, All, ap, sym, ◌∙◌}
use Rattle.std.specs.List.{AllByRecursion}
use Rattle.std.specs.Option.{option_or}
use Rattle.std.proofs.lemmas.List.Elements.{All-from_recursion}
use Rattle.type_table.specs.Table.{Table, IsTable}
use Rattle.type_table.specs.Laws.{StepsWithin}
use Rattle.type_table.specs.declared.kind.Kind.TheVariants.{Undo}
use Rattle.object_trait.specs.Meaning.{Meaning, object}
use Rattle.object_trait.specs.Steps.{alone_by, stops_by, holder_of, stopper}
use Rattle.object_trait.specs.declared.log_entry.LogEntry.{LogEntry}
use Rattle.object_trait.specs.Object.{conflicts_by}
use Rattle.object_trait.proofs.Alone.{or-self}
use Rattle.op_locks.specs.Locks.{blocking_holder}
use Rattle.op_locks.specs.declared.held.Held.{Held}
use Rattle.undo_manager.specs.Held.{held_in}
use Rattle.undo_manager.specs.Log.{entries, LeadsTo}
use Rattle.undo_manager.proofs.Holding.{blocker-open, each-held}
use Rattle.undo_manager.specs.declared.undo_entry.UndoEntry.{UndoEntry}

-- the operations of a log that leads somewhere are of the table
each-fits : StepsWithin → (T : Table) → IsTable T → (s end : ℕ) (log : List UndoEntry) → LeadsTo T s log end → AllByRecursion (λ (u : UndoEntry). u.entry.op < length T.ops) log
each-fits within T table s end [] steps = tt
each-fits within T table s end (u ∷ log) steps = ((within T s u.entry.op steps.1.0 table steps.1.1.0).1, each-fits within T table steps.1.0 end log steps.1.1.1)

each-entry : (T : Table) (log : List UndoEntry) → AllByRecursion (λ (u : UndoEntry). u.entry.op < length T.ops) log → AllByRecursion (λ (e : LogEntry). e.op < length T.ops) (entries log)
each-entry T [] each = tt
each-entry T (u ∷ log) each = (each.0, each-entry T log each.1)

pub ops-fit : StepsWithin → (T : Table) → IsTable T → (s end : ℕ) (log : List UndoEntry) → LeadsTo T s log end → All (λ (u : UndoEntry). u.entry.op < length T.ops) log
ops-fit within T table s end log steps = All-from_recursion (λ (u : UndoEntry). u.entry.op < length T.ops) log (each-fits within T table s end log steps)

pub stopper-told : (m : Meaning) (t k : ℕ) → m.checked.kind ≡ Undo → blocking_holder (conflicts_by m.checked.kind m.checked.file) t k (held_in m.log) ≡ stopper m t k
stopper-told m t k in_place =
    blocker-open (conflicts_by m.checked.kind m.checked.file) t k m.log
    ∙ sym
    (ap (λ way. option_or (holder_of (λ e. alone_by way (object m) m.base m.log t k e && (not (e.by == t) && stops_by way (object m) m.base m.log t k e)) m.log) (holder_of (λ e. not (e.by == t) && stops_by way (object m) m.base m.log t k e) m.log)) in_place
    ∙ or-self (holder_of (λ e. not (e.by == t) && (object m).conflicts k e.op) m.log))

-- what is held are operations of the table
pub held-fits : StepsWithin → (T : Table) → IsTable T → (s end : ℕ) (log : List UndoEntry) → LeadsTo T s log end → All (λ (e : Held). e.op < length T.ops) (held_in (entries log))
held-fits within T table s end log steps =
    All-from_recursion (λ (e : Held). e.op < length T.ops) (held_in (entries log)) (each-held (λ k. k < length T.ops) (entries log) (each-entry T log (each-fits within T table s end log steps)))
