-- Those that began and didn't end so far are marked.
use Rattle.std.proofs.Common.{◌≡◌, ◌&&◌, ℕ, false, not, nat_lt, take}
use Rattle.std.specs.List.{count_by, list_any, slice_index_or}
use Rattle.serial_order.specs.History.{is_begin}
use Rattle.key_commands.specs.Endings.{is_end_of}
use Rattle.key_commands.proofs.endings.open_marks.Given as goal

abbrev pub invariant-loop-kind : goal.invariant-loop-kind
invariant-loop-kind l = (u : ℕ) → slice_index_or l.marks.items u false ≡ (nat_lt u (count_by is_begin l.happened) && not (list_any (is_end_of u) (take l.kind-index l.happened)))
