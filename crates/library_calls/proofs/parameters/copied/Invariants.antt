-- The numbers so far, and there is room for the others.
use Rattle.std.proofs.Common.{◌≡◌, take, length, vec_capacity}
use Rattle.library_calls.proofs.parameters.copied.Given as goal

abbrev pub invariant-loop-number : goal.invariant-loop-number
invariant-loop-number l = (l.narrow.items ≡ take l.number-index l.numbers) × (vec_capacity l.narrow ≡ length l.numbers)
