-- The events so far are made again.
use Rattle.std.proofs.Common.{◌≡◌, ◌++◌, take}
use Rattle.store.specs.Retraces.{AreRetraced}
use Rattle.event_text.specs.EventText.{events_of_kinds}
use Rattle.durable_store.proofs.recovered_store.follow_all.Given as goal

abbrev pub invariant-loop-place : goal.invariant-loop-place
invariant-loop-place l = record {
  types : l.store.types ≡ l.fn.store.types;
  history : l.store.history ≡ l.fn.store.history ++ events_of_kinds (take l.place l.happened);
  limit : l.store.limits ≡ l.fn.store.limits;
  made : AreRetraced l.fn.store (events_of_kinds (take l.place l.happened));
}
