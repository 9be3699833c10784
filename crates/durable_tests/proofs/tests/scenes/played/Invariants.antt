-- The store stays sound.
use Rattle.durable_store.specs.Durable.{IsDurable}
use Rattle.durable_tests.proofs.tests.scenes.played.Given as goal

abbrev pub invariant-loop-step : goal.invariant-loop-step
invariant-loop-step g l = IsDurable g.S.Store l.store
