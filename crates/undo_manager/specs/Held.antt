-- What open transactions hold, by the log: the operation of each open entry, in their order.
use Rattle.std.specs.Prelude.{List, [], ◌∷◌, cond}
use Rattle.object_trait.specs.declared.log_entry.LogEntry.{LogEntry}
use Rattle.op_locks.specs.declared.held.Held.{Held}

abbrev pub held_by : LogEntry → Held
held_by e = record { by = e.by; op = e.op }

abbrev pub held_in : List LogEntry → List Held
held_in [] = []
held_in (e ∷ log) = cond e.done (held_in log) (held_by e ∷ held_in log)
