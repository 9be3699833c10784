-- A row between the two begins there at the latest, or the first one is left.
use Rattle.std.proofs.Common.{◌≡◌, ◌-◌, ◌<◌, ◌≤◌, ◌⊎◌, length, get_or}
use Rattle.journal.proofs.row_places.last_at.Given as goal

abbrev pub invariant-loop-low : goal.invariant-loop-low
invariant-loop-low l = record {
  order : l.low ≤ l.high;
  within : l.high ≤ length l.starts;
  found : (l.low ≡ 0) ⊎ ((l.low < l.high) × (get_or l.starts l.low 0 ≤ l.place));
}

abbrev pub decreases-loop-low : goal.decreases-loop-low
decreases-loop-low l = l.high - l.low
