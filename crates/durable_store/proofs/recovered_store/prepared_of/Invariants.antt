-- The rows so far are those of a store.
use Rattle.durable_store.proofs.PreparedRows.{AreRead}
use Rattle.durable_store.proofs.recovered_store.prepared_of.Given as goal

abbrev pub invariant-loop-place : goal.invariant-loop-place
invariant-loop-place g l = AreRead g.S.Store l.store.history l.said l.fn.journal l.place l.journal l.prepared.items
