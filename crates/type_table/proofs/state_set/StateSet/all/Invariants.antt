use Rattle.std.proofs.Common.{◌≡◌, ℕ, ◌<◌, true, false, length, get_or}
use Rattle.type_table.proofs.state_set.StateSet.all.Given as goal

abbrev pub invariant-loop-s : goal.invariant-loop-s
invariant-loop-s l = (length l.set ≡ l.states) × ((k : ℕ) → k < l.s → get_or l.set k false ≡ true)
