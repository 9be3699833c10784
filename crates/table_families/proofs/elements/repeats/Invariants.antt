use Rattle.std.proofs.Common.{◌≡◌, drop}
use Rattle.table_families.specs.Elements.{repeats}
use Rattle.table_families.proofs.elements.repeats.Given as goal

-- no element before the place repeats
abbrev pub invariant-loop-i : goal.invariant-loop-i
invariant-loop-i l = repeats (drop l.i l.elements) ≡ repeats l.elements
