-- The first words are there.
use Rattle.std.proofs.Common.{◌≡◌, take}
use Rattle.std.specs.List.{join_with_byte}
use Rattle.attempts.specs.Commands.{asked_calls}
use Rattle.durable_store.specs.Keys.{reply_words}
use Rattle.durable_store.proofs.keyed.reply_text.Given as goal

abbrev pub invariant-loop-at : goal.invariant-loop-at
invariant-loop-at l = l.text.items ≡ join_with_byte 32 (take l.at (reply_words l.store (asked_calls l.calls) l.operations))
