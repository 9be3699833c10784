-- What an event does to what a store keeps.
use Rattle.std.specs.Prelude.{◌≡◌, ℕ, ◌-◌, ◌<◌, List, [], ◌∷◌, ◌++◌, length, take, set, Option, Some, None, slice_get}
use Rattle.object_trait.specs.Meaning.{Meaning}
use Rattle.object_trait.specs.declared.event.Event.{Event}
use Rattle.object_trait.specs.declared.event.EventKind.{EventKind}
use Rattle.object_trait.specs.declared.event.EventKind.TheVariants.{Begin, Op, Commit, Abort, Rollback}
use Rattle.serial_order.specs.History.{summary}
use Rattle.serial_order.specs.Machine.{MayFollow}
use Rattle.serial_order.specs.Represent.{Changes}
use Rattle.open_transactions.specs.Transactions.{Row}
use Rattle.store_laws.specs.Kept.{Keeping, objects_of, IsKept}

-- ---- the rows of transactions

-- a transaction with one more place
abbrev pub at_too : ℕ → Row → Row
at_too x r = record r { places = r.places ++ x ∷ [] }

-- without its last n places
abbrev pub without_places : ℕ → Row → Row
without_places n r = record r { places = take (length r.places - n) r.places }

-- t's row is that of an open transaction, which an event of its makes another
pub record IsKeptRowMoved (old new : List (Option Row)) (t : ℕ) (moved : Row → Option Row) : Type 0 where
  pub row : Row
  pub was : slice_get old t ≡ Some (Some row)
  pub becomes : new ≡ set old t (moved row)

-- what the event of a worker does to the rows
abbrev pub KeptRowsMove : ℕ → EventKind → List (Option Row) → List (Option Row) → Type 0
KeptRowsMove w (Begin t) old new = new ≡ old ++ Some (record { worker = w; places = [] }) ∷ []
KeptRowsMove w (Op k t x) old new = IsKeptRowMoved old new t (λ r. Some (at_too x r))
KeptRowsMove w (Commit t) old new = IsKeptRowMoved old new t (λ r. None)
KeptRowsMove w (Abort t) old new = IsKeptRowMoved old new t (λ r. None)
KeptRowsMove w (Rollback t n) old new = IsKeptRowMoved old new t (λ r. Some (without_places n r))
KeptRowsMove w _ old new = new ≡ old

-- ---- all that is kept

-- what the event after the history H does to it: to each object, and to the rows
pub record Moves (old new : Keeping) (H : List Event) (e : Event) : Type 0 where
  pub as_many : length new.meanings ≡ length old.meanings
  pub objects : (x : ℕ) (m n : Meaning) → slice_get old.meanings x ≡ Some m → slice_get new.meanings x ≡ Some n → Changes x (summary H) e.kind m n
  pub rows : KeptRowsMove e.worker e.kind old.rows new.rows

-- by an event that may follow, what is kept goes on agreeing with the history. Its length leaves room in logs, which are no longer
abbrev pub StaysKept : Type 0
StaysKept =
    (old new : Keeping) (H : List Event) (e : Event) → IsKept old H → MayFollow (objects_of old.meanings) H e → Moves old new H e
    → length H < 4294967295 → IsKept new (H ++ e ∷ [])
