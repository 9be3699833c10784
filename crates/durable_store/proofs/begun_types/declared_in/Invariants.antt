-- The texts so far are read.
use Rattle.std.proofs.Common.{◌≡◌, length}
use Rattle.declared_text.specs.Declared.{Declares}
use Rattle.object_types.proofs.Pairs.{Each}
use Rattle.durable_store.proofs.begun_types.declared_in.Given as goal

abbrev pub invariant-loop-position : goal.invariant-loop-position
invariant-loop-position l = record {
  count : length l.declared.items ≡ l.position;
  each : Each Declares l.texts l.declared.items;
}
