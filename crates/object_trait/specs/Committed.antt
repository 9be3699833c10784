-- The committed state of an object, by its base and its log.
use Rattle.std.specs.Prelude.{ℕ, List, filter, Option, Some}
use Rattle.type_table.specs.declared.kind.Kind.{Kind}
use Rattle.type_table.specs.declared.kind.Kind.TheVariants.{Undo, Intentions, Escrow}
use Rattle.object_trait.specs.Object.{Object}
use Rattle.object_trait.specs.Meaning.{Meaning, object, run_log}
use Rattle.object_trait.specs.declared.log_entry.LogEntry.{LogEntry}

-- the done entries of a log
abbrev pub done_of : List LogEntry → List LogEntry
done_of log = filter (λ e. e.done) log

-- update in place: the state after the done entries alone. Deferred update and escrow: base
abbrev pub committed_state_by : Kind → Object → ℕ → List LogEntry → Option ℕ
committed_state_by Undo o base log = run_log o base (done_of log)
committed_state_by Intentions o base log = Some base
committed_state_by Escrow o base log = Some base

abbrev pub committed_of : Meaning → Option ℕ
committed_of m = committed_state_by m.checked.kind (object m) m.base m.log
