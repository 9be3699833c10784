-- The objects so far have their types.
use Rattle.std.proofs.Common.{◌≡◌, length, map}
use Rattle.std.specs.Arc.{arc_value}
use Rattle.durable_store.specs.Begun.{BeginAt}
use Rattle.durable_store.proofs.begun_types.types_at.Given as goal

abbrev pub invariant-loop-x : goal.invariant-loop-x
invariant-loop-x l = record {
  count : length l.begun.items ≡ l.x;
  known : BeginAt (map arc_value l.types) l.states (map arc_value l.begun.items);
}
