-- Logs whose entries each keep the state before them.
use Rattle.std.specs.Prelude.{◌≡◌, ℕ, List, [], ◌∷◌, map, false, not, Bool, Some, cond}
use Rattle.type_table.specs.Table.{Table, next}
use Rattle.object_trait.specs.Meaning.{is_open_of}
use Rattle.object_trait.specs.Steps.{marked}
use Rattle.object_trait.specs.declared.log_entry.LogEntry.{LogEntry}
use Rattle.undo_manager.specs.declared.undo_entry.UndoEntry.{UndoEntry}

-- the log without the states
abbrev pub entries : List UndoEntry → List LogEntry
entries log = map (λ (u : UndoEntry). u.entry) log

-- each entry keeps the state before it, from s to the end
abbrev pub LeadsTo : Table → ℕ → List UndoEntry → ℕ → Type 0
LeadsTo T s [] end = s ≡ end
LeadsTo T s (u ∷ log) end = (u.before ≡ s) × ((mid : ℕ) × ((next T s u.entry.op ≡ Some mid) × LeadsTo T mid log end))

-- the state before a log, of which the end is given
abbrev pub start_of : List UndoEntry → ℕ → ℕ
start_of [] end = end
start_of (u ∷ log) end = u.before

-- without the leading done entries
abbrev pub unsettled : List UndoEntry → List UndoEntry
unsettled [] = []
unsettled (u ∷ log) = cond u.entry.done (unsettled log) (u ∷ log)

-- the log is empty or begins with an entry that isn't done
abbrev pub BeginsOpen : List LogEntry → Type 0
BeginsOpen [] = Unit {0}
BeginsOpen (e ∷ log) = e.done ≡ false

-- t's entries are done
abbrev pub marked_one : ℕ → UndoEntry → UndoEntry
marked_one t u = record u { entry = marked t u.entry }

-- an entry that isn't an open one of t
abbrev pub stays_in_log : ℕ → LogEntry → Bool
stays_in_log t e = not (is_open_of t e)
