-- Transactions that work and end, by hand.
use Rattle.std.specs.Prelude.{List, [], ◌∷◌, codes}
use Rattle.object_trait.specs.declared.event.Event.{Event}
use Rattle.object_trait.specs.declared.event.EventKind.TheVariants.{Begin, Op, Commit, Rollback}
use Rattle.journal.specs.declared.prepared_row.Prepared.{Prepared}
use Rattle.event_text.specs.EventText.{events_of_kinds}

-- 0 works at 2, at 1, which it takes back, at 0 and at 2 again, and is open; 1 works at 1 and commits
abbrev pub two_work : List Event
two_work = events_of_kinds (Begin 0 ∷ Op 0 0 2 ∷ Begin 1 ∷ Op 0 0 1 ∷ Rollback 0 1 ∷ Op 0 1 1 ∷ Op 0 0 0 ∷ Commit 1 ∷ Op 0 0 2 ∷ [])

-- 0 is prepared, by the name that it had in a life before
abbrev pub first_prepared : Prepared
first_prepared = record { key = codes "order:7"; given = record { life = 1; number = 3 }; number = 0; until = 60 }
