use Rattle.std.proofs.Common.{◌≡◌, ◌-◌, map}
use Rattle.std.specs.List.{flat_map, range_with_len}
use Rattle.table_families.proofs.Numbers.{beginning_with}
use Rattle.table_families.proofs.counts.+counts_within.Given as goal

abbrev pub decreases-counts_within : goal.decreases-counts_within
decreases-counts_within l = l.n

-- the lists that begin with a lower count are there
abbrev pub invariant-loop-first : goal.invariant-loop-first
invariant-loop-first l = map (λ counts. counts.items) l.lists.items ≡ flat_map (beginning_with (l.n - 1) l.room) (range_with_len 0 l.first)
