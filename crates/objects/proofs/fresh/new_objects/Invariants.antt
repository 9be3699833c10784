-- The types so far have their objects, which are new.
use Rattle.std.proofs.Common.{◌≡◌, ◌≤◌, length, map, take, vec_capacity, vec_len}
use Rattle.std.specs.Arc.{arc_value}
use Rattle.objects.specs.Object.{AreNew, checked_types}
use Rattle.objects.proofs.fresh.new_objects.Given as goal

abbrev pub invariant-loop-checked : goal.invariant-loop-checked
invariant-loop-checked l = record {
  room : length l.types ≤ vec_capacity l.objects;
  count : vec_len l.objects ≡ l.checked-index;
  fresh : AreNew l.objects.items;
  types : checked_types l.objects.items ≡ (map arc_value (take l.checked-index l.types));
}
