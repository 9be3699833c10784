-- The events of the first words were made.
use Rattle.std.proofs.Common.{take}
use Rattle.library_calls.specs.Histories.{AreMadeOfWords}
use Rattle.library_calls.proofs.made_events.follow_words.Given as goal

abbrev pub invariant-loop-at : goal.invariant-loop-at
invariant-loop-at l = AreMadeOfWords l.fn.store (take l.at l.events) l.store
