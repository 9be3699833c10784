-- Those so far that are marked.
use Rattle.std.proofs.Common.{◌≡◌, filter, take}
use Rattle.key_commands.proofs.Marks.{is_marked}
use Rattle.key_commands.proofs.endings.undecided.Given as goal

abbrev pub invariant-loop-one : goal.invariant-loop-one
invariant-loop-one l = l.held.items ≡ filter (is_marked l.marks.items) (take l.one-index l.prepared)
