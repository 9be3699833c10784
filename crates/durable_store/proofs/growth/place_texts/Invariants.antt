-- The texts so far have their places among the known ones and the fresh ones.
use Rattle.std.proofs.Common.{◌≡◌, ◌+◌, ◌≤◌, ◌++◌, length}
use Rattle.object_types.proofs.Pairs.{Each}
use Rattle.durable_store.specs.Growth.{AreUnknown}
use Rattle.durable_store.proofs.Growths.{IsAmongAt}
use Rattle.durable_store.proofs.growth.place_texts.Given as goal

abbrev pub invariant-loop-text : goal.invariant-loop-text
invariant-loop-text l = record {
  few : length l.known + length l.fresh.items ≤ 65536;
  unknown : AreUnknown l.known l.fresh.items;
  count : length l.places.items ≡ l.text-index;
  each : Each (IsAmongAt (l.known ++ l.fresh.items)) l.texts l.places.items;
}
