-- The first ones are told.
use Rattle.std.proofs.Common.{◌≡◌, ◌+◌, ◌≤◌, ◌∷◌, length, map, take, vec_capacity, vec_len}
use Rattle.history_audit.specs.Epochs.{told_epoch}
use Rattle.store_commands.specs.Audited.{told_of}
use Rattle.store_commands.proofs.several.histories_of.Given as goal

abbrev pub invariant-loop-next : goal.invariant-loop-next
invariant-loop-next l = record {
  room : length l.later + 1 ≤ vec_capacity l.histories;
  count : vec_len l.histories ≡ l.next-index + 1;
  are : map told_epoch l.histories.items ≡ told_of l.first ∷ map told_of (take l.next-index l.later);
}
