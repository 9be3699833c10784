-- The lines so far have their places.
use Rattle.std.proofs.Common.{◌≡◌, length}
use Rattle.object_types.proofs.Pairs.{Each}
use Rattle.durable_store.proofs.Growths.{IsPlacedAt}
use Rattle.durable_store.proofs.growth.placed_lines.Given as goal

abbrev pub invariant-loop-x : goal.invariant-loop-x
invariant-loop-x l = record {
  count : length l.placed.items ≡ l.x;
  each : Each (IsPlacedAt l.places) l.lines l.placed.items;
}
