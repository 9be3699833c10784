-- Stores of any sort, by the histories that they may make, whatever else they know.
use Rattle.std.specs.Prelude.{◌≡◌, ℕ, List, [], ◌∷◌, ◌++◌, Bool, true, Some}
use Rattle.type_table.specs.Table.{Table}
use Rattle.type_table.specs.Run.{IsLegal}
use Rattle.object_trait.specs.declared.event.Event.{Event}
use Rattle.serial_order.specs.Operations.{ops}
use Rattle.serial_order.specs.History.{summary}
use Rattle.serial_order.specs.Serial.{serial_at}
use Rattle.escrow_exact.specs.Ends.{IsEnding}

-- a test of histories: the store may make it
abbrev pub Store : Type 0
Store = List Event → Bool

-- it refuses no commit, no abort and no rollback
abbrev pub RefusesNoEnd : Store → Type 0
RefusesNoEnd makes = (H : List Event) (e : Event) → makes H ≡ true → IsEnding (summary H) e.kind → makes (H ++ e ∷ []) ≡ true

-- it is serial in commit order: at x this is legal in each history that it may make
abbrev pub IsSerialAt : Store → Table → ℕ → Type 0
IsSerialAt makes T x = (H : List Event) → makes H ≡ true → IsLegal T (Some T.initial) (ops (serial_at x H))
