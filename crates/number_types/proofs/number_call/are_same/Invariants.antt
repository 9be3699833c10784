-- The calls so far are the same.
use Rattle.std.proofs.Common.{◌≡◌, ℕ, ◌<◌, get_or}
use Rattle.number_types.specs.declared.number_call.NumberCall.TheVariants.{Value}
use Rattle.number_types.proofs.number_call.are_same.Given as goal

abbrev pub invariant-loop-i : goal.invariant-loop-i
invariant-loop-i l = (k : ℕ) → k < l.i → get_or l.calls k Value ≡ get_or l.others k Value
