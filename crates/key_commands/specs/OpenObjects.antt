-- At which objects open transactions did what survives.
use Rattle.std.specs.Prelude.{◌≡◌, ℕ, Bool, false, ◌-◌, ◌==◌, List, [], ◌∷◌, ◌++◌, length, take, Option, None, Some, Vec, if◌then◌else◌}
use Rattle.std.specs.List.{slice_get, slice_index_or}
use Rattle.std.specs.declared.alloc.Global.{Global}
use Rattle.object_trait.specs.declared.event.Event.{Event}
use Rattle.object_trait.specs.declared.event.EventKind.{EventKind}
use Rattle.object_trait.specs.declared.event.EventKind.TheVariants.{Op, Rollback}
use Rattle.serial_order.specs.Operations.{of}
use Rattle.serial_order.specs.History.{is_open, summary, surviving}
use Rattle.carried_orders.specs.Merging.{worked_at}

-- the objects of what survives of t, one for each operation, where t is open, and else none
abbrev pub open_objects : List Event → ℕ → List ℕ
open_objects H t = if is_open (summary H) t then worked_at (of t (surviving H)) else []

-- these, after one more event, which doesn't end t
abbrev pub objects_after : ℕ → List ℕ → EventKind → List ℕ
objects_after t xs (Op k u x) = if u == t then xs ++ x ∷ [] else xs
objects_after t xs (Rollback u n) = if u == t then take (length xs - n) xs else xs
objects_after t xs _ = xs

-- what a row has, and none where there is no row
abbrev pub row_objects : Option (Vec ℕ Global) → List ℕ
row_objects None = []
row_objects (Some row) = row.items

-- what the row of t has
abbrev pub objects_in : List (Vec ℕ Global) → ℕ → List ℕ
objects_in rows t = row_objects (slice_get rows t)

-- the rows of those that are marked change so, and the others stay
abbrev pub MarkedRowsChange : List Bool → (ℕ → List ℕ → List ℕ) → List (Vec ℕ Global) → List (Vec ℕ Global) → Type 0
MarkedRowsChange marks change old new = (t : ℕ) → objects_in new t ≡ (if slice_index_or marks t false then change t (objects_in old t) else objects_in old t)
