-- The calls so far are the same.
use Rattle.std.proofs.Common.{◌≡◌, ℕ, ◌<◌, get_or}
use Rattle.object_calls.specs.declared.call.NamedCall.{NamedCall}
use Rattle.object_calls.proofs.call.are_same.Given as goal

abbrev pub invariant-loop-i : goal.invariant-loop-i
invariant-loop-i l = (k : ℕ) (d : NamedCall) → k < l.i → get_or l.calls k d ≡ get_or l.others k d
