-- What an event does to the rows of transactions.
use Rattle.std.specs.Prelude.{◌≡◌, ◌-◌, ℕ, List, [], ◌∷◌, ◌++◌, take, length, Option, Some, None, slice_get, slice_set}
use Rattle.type_table.specs.Table.{Table}
use Rattle.object_trait.specs.declared.event.Event.{Event}
use Rattle.object_trait.specs.declared.event.EventKind.{EventKind}
use Rattle.object_trait.specs.declared.event.EventKind.TheVariants.{Begin, Op, Commit, Abort, Rollback}
use Rattle.serial_order.specs.History.{summary, ContinuesHistory}
use Rattle.history_judge.specs.declared.executed.Executed.{Executed}
use Rattle.history_judge.specs.Rows.{AreRowsOf}

-- the row of the open transaction t becomes another, and no other row changes
pub record IsRowMoved (old new : List (Option (List Executed))) (t : ℕ) (moved : List Executed → Option (List Executed)) : Type 0 where
  pub its : List Executed
  pub was : slice_get old t ≡ Some (Some its)
  pub becomes : new ≡ slice_set old t (moved its)

-- a begin adds a row without operations; an operation comes after those of its row, the end of a transaction takes its row out, a
-- rollback strikes the last n operations of its row; and other events change nothing
abbrev pub RowsMove : EventKind → List (Option (List Executed)) → List (Option (List Executed)) → Type 0
RowsMove (Begin t) old new = new ≡ old ++ Some [] ∷ []
RowsMove (Op k t x) old new = IsRowMoved old new t (λ its. Some (its ++ (record { x = x; k = k }) ∷ []))
RowsMove (Commit t) old new = IsRowMoved old new t (λ its. None)
RowsMove (Abort t) old new = IsRowMoved old new t (λ its. None)
RowsMove (Rollback t n) old new = IsRowMoved old new t (λ its. Some (take (length its - n) its))
RowsMove _ old new = new ≡ old

-- where the rows agree with some events and one more may come next, the rows to which it leads agree with these and it
abbrev pub MovedRowsAgree : Type 0
MovedRowsAgree =
    (tables : List Table) (H : List Event) (e : Event) (old new : List (Option (List Executed)))
    → AreRowsOf old (summary H) → ContinuesHistory tables (summary H) e.kind → RowsMove e.kind old new → AreRowsOf new (summary (H ++ e ∷ []))
