-- What is remembered of the calls of a script.
use Rattle.std.specs.Prelude.{◌≡◌, ℕ, List, [], Option, Some, slice_get, slice_index_or}
use Rattle.object_trait.specs.Object.{Object}
use Rattle.serial_order.specs.Replay.{call_at}
use Rattle.script_run.specs.declared.found_calls.FoundCall.{FoundCall}

-- each call that is remembered of a name at an object is its call there
pub record AreRemembered (objects : List Object) (names : List (List ℕ)) (found : List (Option FoundCall)) : Type 0 where
  pub each : (i : ℕ) (it : FoundCall) → slice_get found i ≡ Some (Some it) → call_at (slice_get objects it.x) (slice_index_or names it.name []) ≡ Some it.call
