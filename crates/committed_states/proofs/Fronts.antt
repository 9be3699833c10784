-- What goes on along two lists of events.
use Rattle.std.proofs.Common.{List, [], ◌∷◌, ◌++◌, append_assoc, append-nil}
use Rattle.type_table.specs.Table.{Table}
use Rattle.object_trait.specs.Object.{Object}
use Rattle.object_trait.specs.declared.event.Event.{Event}
use Rattle.serial_order.specs.History.{AllContinue}
use Rattle.serial_order.specs.Machine.{RunsOn}

-- ---- runs

-- by the first events, and then by the others
pub runs-front : (objects : List Object) (before V W : List Event) → RunsOn objects before (V ++ W) → RunsOn objects before V
runs-front objects before [] W on = tt
runs-front objects before (e ∷ V) W on = (on.0, runs-front objects (before ++ e ∷ []) V W on.1)

pub runs-rest : (objects : List Object) (before V W : List Event) → RunsOn objects before (V ++ W) → RunsOn objects (before ++ V) W
runs-rest objects before [] W on = rw (append-nil before) on
runs-rest objects before (e ∷ V) W on = rw (append_assoc before (e ∷ []) V) at (runs-rest objects (before ++ e ∷ []) V W on.1)

-- and so along both
pub runs-append : (objects : List Object) (before V W : List Event) → RunsOn objects before V → RunsOn objects (before ++ V) W → RunsOn objects before (V ++ W)
runs-append objects before [] W first second = rw (append-nil before) at second
runs-append objects before (e ∷ V) W first second = (first.0, runs-append objects (before ++ e ∷ []) V W first.1 (rw (← (append_assoc before (e ∷ []) V)) at second))

-- ---- histories

pub continue-front : (tables : List Table) (before V W : List Event) → AllContinue tables before (V ++ W) → AllContinue tables before V
continue-front tables before [] W on = tt
continue-front tables before (e ∷ V) W on = (on.0, continue-front tables (before ++ e ∷ []) V W on.1)

pub continue-rest : (tables : List Table) (before V W : List Event) → AllContinue tables before (V ++ W) → AllContinue tables (before ++ V) W
continue-rest tables before [] W on = rw (append-nil before) on
continue-rest tables before (e ∷ V) W on = rw (append_assoc before (e ∷ []) V) at (continue-rest tables (before ++ e ∷ []) V W on.1)

pub continue-append : (tables : List Table) (before V W : List Event) → AllContinue tables before V → AllContinue tables (before ++ V) W → AllContinue tables before (V ++ W)
continue-append tables before [] W first second = rw (append-nil before) at second
continue-append tables before (e ∷ V) W first second = (first.0, continue-append tables (before ++ e ∷ []) V W first.1 (rw (← (append_assoc before (e ∷ []) V)) at second))
