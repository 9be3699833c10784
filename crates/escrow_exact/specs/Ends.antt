-- What open transactions did at an object, and the events that may always come: ends of transactions, and rollbacks.
use Rattle.std.specs.Prelude.{◌≡◌, ℕ, ◌<◌, ◌≤◌, List, [], ◌∷◌, ◌++◌, length, true, if◌then◌else◌}
use Rattle.object_trait.specs.declared.event.Event.{Event}
use Rattle.object_trait.specs.declared.event.EventKind.{EventKind}
use Rattle.object_trait.specs.declared.event.EventKind.TheVariants.{Commit, Abort, Rollback}
use Rattle.serial_order.specs.Operations.{ops, at_object, of}
use Rattle.serial_order.specs.History.{Summary, summary, is_open}

-- what u did at x, where it is open
abbrev pub own_in : ℕ → Summary → ℕ → List ℕ
own_in x s u = if is_open s u then ops (of u (at_object x s.survives)) else []

abbrev pub open_own : ℕ → List Event → ℕ → List ℕ
open_own x H = own_in x (summary H)

-- an open transaction ends, or takes back some of its last operations
abbrev pub IsEnding : Summary → EventKind → Type 0
IsEnding s (Commit t) = is_open s t ≡ true
IsEnding s (Abort t) = is_open s t ≡ true
IsEnding s (Rollback t n) = (is_open s t ≡ true) × (0 < n) × (n ≤ length (of t s.survives))
IsEnding s _ = ⊥

-- each of these events is such an end where it happens
abbrev pub AreEndings : List Event → List Event → Type 0
AreEndings before [] = Unit {0}
AreEndings before (e ∷ es) = IsEnding (summary before) e.kind × AreEndings (before ++ e ∷ []) es
