-- The paths so far have their values.
use Rattle.std.specs.Prelude.{All}
use Rattle.std.proofs.Common.{◌≡◌, ◌≤◌, ℕ, List, map, take, length, vec_len, vec_capacity}
use Rattle.store_files.specs.Types.{AreReadAt}
use Rattle.store_files.proofs.several_files.read_files.Given as goal

abbrev pub invariant-loop-path : goal.invariant-loop-path
invariant-loop-path g l = record {
  room : length l.paths ≤ vec_capacity l.files;
  count : vec_len l.files ≡ l.path-index;
  kept : (other : List ℕ) → g.S.Source.holds l.source other ≡ g.S.Source.holds l.fn.source other;
  fit : All (g.F.Format.is_fit l.format) l.files.items;
  read : AreReadAt (g.F.Format.describes l.format) (g.S.Source.holds l.fn.source) (take l.path-index (map (λ p. p.now) l.paths)) l.files.items;
}
