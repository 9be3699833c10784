use Rattle.std.proofs.Common.{◌≡◌, take}
use Rattle.journal.proofs.new_file.are_same.Given as goal

abbrev pub invariant-loop-i : goal.invariant-loop-i
invariant-loop-i g l = take l.i l.found ≡ take l.i l.said
