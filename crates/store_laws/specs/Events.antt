-- What the calls of a store change is what their events do to what is kept. Statements of their laws.
use Rattle.std.specs.Prelude.{◌≡◌, ℕ, ◌+◌, List, [], ◌∷◌, ◌++◌, length, set, Some, None, slice_get}
use Rattle.object_trait.specs.Object.{Object}
use Rattle.object_trait.specs.Meaning.{Meaning}
use Rattle.object_trait.specs.Steps.{applied, IsStrike}
use Rattle.object_trait.specs.declared.event.Event.{Event}
use Rattle.object_trait.specs.declared.event.EventKind.{EventKind}
use Rattle.object_trait.specs.declared.event.EventKind.TheVariants as kind
use Rattle.object_trait.specs.declared.event.EventKind.TheVariants.{Begin, Op, Busy, Commit, Abort, Rollback}
use Rattle.serial_order.specs.History.{summary}
use Rattle.serial_order.specs.Machine.{MayFollow, IsRun}
use Rattle.serial_order.specs.Replay.{open_count}
use Rattle.object_calls.specs.Ends.{times_in, ChangesAt, EndsObject}
use Rattle.object_calls.specs.declared.end.End.{End}
use Rattle.object_calls.specs.declared.end.End.TheVariants as end
use Rattle.store_laws.specs.Stored.{types_of}
use Rattle.open_transactions.specs.Transactions.{Row}
use Rattle.store_laws.specs.Kept.{Keeping, IsKept}
use Rattle.store_laws.specs.Moves.{at_too, without_places, Moves}
use Rattle.store_laws.specs.Before.{IsOpenRow, last_places}

-- ---- each kind of event

-- where nothing changed: an answer `Busy` or `None`
abbrev pub QuietMoves : Type 0
QuietMoves =
    (old new : Keeping) (H : List Event) (w t x c : ℕ) → IsKept old H → new.meanings ≡ old.meanings → new.rows ≡ old.rows
    → ((u : ℕ) → Moves old new H (record { worker = w; kind = Busy c t x u })) × Moves old new H (record { worker = w; kind = kind.None t x c })

-- with one more row: a transaction began
abbrev pub BeginMoves : Type 0
BeginMoves =
    (old new : Keeping) (H : List Event) (w t : ℕ) → IsKept old H → new.meanings ≡ old.meanings
    → new.rows ≡ old.rows ++ Some (record { worker = w; places = [] }) ∷ [] → Moves old new H (record { worker = w; kind = Begin t })

-- with one more entry at x, and one more place in t's row: an operation
abbrev pub OpMoves : Type 0
OpMoves =
    (old new : Keeping) (H : List Event) (w t x op : ℕ) (row : Row) (m : Meaning) → IsKept old H → IsOpenRow old t row
    → slice_get old.meanings x ≡ Some m → new.meanings ≡ set old.meanings x (applied m t op)
    → new.rows ≡ set old.rows t (Some (at_too x row)) → Moves old new H (record { worker = w; kind = Op op t x })

-- the event of an end of t
abbrev pub end_event : End → ℕ → EventKind
end_event end.Commit t = Commit t
end_event end.Abort t = Abort t

-- with this end of t at each object where t has operations, and no row of t
abbrev pub EndMoves : Type 0
EndMoves =
    (how : End) (old new : Keeping) (H : List Event) (w t : ℕ) (row : Row) → IsKept old H → IsOpenRow old t row
    → ChangesAt row.places (λ x m n. EndsObject how m t n) old.meanings new.meanings
    → new.rows ≡ set old.rows t None → Moves old new H (record { worker = w; kind = end_event how t })

-- with as many entries struck at each object as are among the last n places of t: a rollback
abbrev pub RollbackMoves : Type 0
RollbackMoves =
    (old new : Keeping) (H : List Event) (w t n : ℕ) (row : Row) → IsKept old H → IsOpenRow old t row
    → ChangesAt (last_places n row.places) (λ x m k. IsStrike m t (times_in x (last_places n row.places)) k) old.meanings new.meanings
    → new.rows ≡ set old.rows t (Some (without_places n row)) → Moves old new H (record { worker = w; kind = Rollback t n })

-- ---- any event

-- it leaves the objects' types
abbrev pub TypesStay : Type 0
TypesStay = (old new : Keeping) (H : List Event) (e : Event) → Moves old new H e → types_of new.meanings ≡ types_of old.meanings

-- how much room it takes, for itself and for the ends of open transactions
abbrev pub room_taken : EventKind → ℕ
room_taken (Begin t) = 2
room_taken (Commit t) = 0
room_taken (Abort t) = 0
room_taken _ = 1

-- an event that may follow takes that much
abbrev pub RoomAfter : Type 0
RoomAfter =
    (objects : List Object) (H : List Event) (e : Event) → IsRun objects H → MayFollow objects H e
    → length (H ++ e ∷ []) + open_count (summary (H ++ e ∷ [])) ≡ length H + open_count (summary H) + room_taken e.kind
