-- The rows have what open transactions did so far that survives.
use Rattle.std.proofs.Common.{◌≡◌, ℕ, length, take}
use Rattle.event_text.specs.EventText.{events_of_kinds}
use Rattle.key_commands.specs.OpenObjects.{objects_in}
use Rattle.key_commands.proofs.Objects.{objects_so_far}
use Rattle.key_commands.proofs.held_transactions.open_rows.Given as goal

abbrev pub invariant-loop-kind : goal.invariant-loop-kind
invariant-loop-kind l = record {
  count : length l.rows.items ≡ length l.marks.items;
  are : (t : ℕ) → objects_in l.rows.items t ≡ objects_so_far (events_of_kinds l.happened) (events_of_kinds (take l.kind-index l.happened)) t;
}
