-- What an object means, whatever its kind of recovery and whatever it keeps: a checked type, a state, and a log of operations.
use Rattle.std.specs.Prelude.{◌≡◌, ℕ, List, map, filter, Bool, false, not, ◌&&◌, ◌==◌, Option, Some, All}
use Rattle.type_table.specs.Run.{run}
use Rattle.type_table.specs.declared.kind.Kind.{Kind}
use Rattle.type_table.specs.declared.kind.Kind.TheVariants.{Undo, Intentions, Escrow}
use Rattle.table_checker.specs.Checked.{Checked}
use Rattle.object_trait.specs.Object.{Object, object_of}
use Rattle.object_trait.specs.declared.log_entry.LogEntry.{LogEntry}

-- the log says what was done since base, oldest first
pub record Meaning : Type 0 where
  pub checked : Checked
  pub base : ℕ
  pub log : List LogEntry

abbrev pub object : Meaning → Object
object m = object_of m.checked

-- the operations of a log
abbrev pub log_ops : List LogEntry → List ℕ
log_ops log = map (λ e. e.op) log

-- an entry of t that isn't done
abbrev pub is_open_of : ℕ → LogEntry → Bool
is_open_of t e = (e.by == t) && not e.done

-- none is done
abbrev pub AreOpen : List LogEntry → Type 0
AreOpen log = All (λ (e : LogEntry). e.done ≡ false) log

-- t's open entries
abbrev pub open_of : ℕ → List LogEntry → List LogEntry
open_of t log = filter (is_open_of t) log

-- what each transaction did
abbrev pub own_of : List LogEntry → ℕ → List ℕ
own_of log t = log_ops (open_of t log)

-- the state after the operations of a log
abbrev pub run_log : Object → ℕ → List LogEntry → Option ℕ
run_log o base log = run o.table (Some base) (log_ops log)

-- the object's state: with update in place that after the whole log, with deferred update and in escrow base
abbrev pub state_by : Kind → Object → ℕ → List LogEntry → Option ℕ
state_by Undo o base log = run_log o base log
state_by Intentions o base log = Some base
state_by Escrow o base log = Some base

-- the state that t sees: with update in place that after the whole log, with deferred update and in escrow that after its own open entries
abbrev pub view_by : Kind → Object → ℕ → List LogEntry → ℕ → Option ℕ
view_by Undo o base log t = run_log o base log
view_by Intentions o base log t = run_log o base (open_of t log)
view_by Escrow o base log t = run_log o base (open_of t log)

abbrev pub state_of : Meaning → Option ℕ
state_of m = state_by m.checked.kind (object m) m.base m.log

abbrev pub view_of : Meaning → ℕ → Option ℕ
view_of m t = view_by m.checked.kind (object m) m.base m.log t
