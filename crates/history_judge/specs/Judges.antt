-- When an event is judged rightly.
use Rattle.std.specs.Prelude.{◌≡◌, ℕ, List, [], ◌∷◌, ◌++◌, Bool, true, false, Option, Some, Result, Ok, Err}
use Rattle.type_table.specs.Table.{Table}
use Rattle.object_trait.specs.declared.event.Event.{Event}
use Rattle.object_trait.specs.declared.event.EventKind.{EventKind}
use Rattle.object_trait.specs.declared.event.EventKind.TheVariants.{Begin, Op}
use Rattle.serial_order.specs.History.{summary, ContinuesHistory}
use Rattle.history_judge.specs.declared.executed.Executed.{Executed}
use Rattle.history_judge.specs.declared.event_fault.EventFault.{EventFault}
use Rattle.history_judge.specs.declared.event_fault.EventFault.TheVariants.{Bad, NoMemory}
use Rattle.history_judge.specs.Rows.{AreRowsOf, committed_in}

-- the rows have to grow for the event
abbrev pub grows_rows : EventKind → Bool
grows_rows (Begin t) = true
grows_rows (Op k t x) = true
grows_rows _ = false

-- The event is judged after every list of events with which the old rows agree. Where it is taken it can follow there, the new rows
-- agree with the events and this one, whichever worker's it is, and what is handed out is what it commits. Where it is bad it
-- can't follow there. Memory is refused to a begin or an operation alone
abbrev pub Judges : List Table → List (Option (List Executed)) → EventKind → Result (Option (List Executed)) EventFault → List (Option (List Executed)) → Type 0
Judges tables old event (Ok its) new =
    (H : List Event) (w : ℕ) → AreRowsOf old (summary H)
    → ContinuesHistory tables (summary H) event × AreRowsOf new (summary (H ++ (record { worker = w; kind = event }) ∷ [])) × (its ≡ committed_in event (summary H))
Judges tables old event (Err Bad) new = (H : List Event) → AreRowsOf old (summary H) → ContinuesHistory tables (summary H) event → ⊥
Judges tables old event (Err NoMemory) new = grows_rows event ≡ true

-- the event is judged, whatever it commits
abbrev pub Takes : List Table → List (Option (List Executed)) → EventKind → Result (Unit {0}) EventFault → List (Option (List Executed)) → Type 0
Takes tables old event (Ok done) new = (its : Option (List Executed)) × Judges tables old event (Ok its) new
Takes tables old event (Err fault) new = Judges tables old event (Err fault) new

-- what a commit hands out is what it commits
abbrev pub handed : Result (List Executed) EventFault → Result (Option (List Executed)) EventFault
handed (Ok its) = Ok (Some its)
handed (Err fault) = Err fault
