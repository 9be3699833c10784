use Rattle.std.proofs.Common.{◌≡◌, ◌∷◌, ◌++◌, map, take}
use Rattle.table_families.proofs.counts.push_behind.Given as goal

-- the lists so far come after those that were there before
abbrev pub invariant-loop-counts : goal.invariant-loop-counts
invariant-loop-counts l = map (λ counts. counts.items) l.lists.items ≡ map (λ counts. counts.items) l.initial.lists.items ++ map (λ counts. l.first ∷ counts.items) (take l.counts-index l.rest)
