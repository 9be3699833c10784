-- What is done was taken.
use Rattle.std.proofs.Common.{◌≡◌, ◌≤◌, ◌-◌, None, length, take}
use Rattle.std.specs.Io.KnownBytes.{Appends}
use Rattle.outputs.proofs.gathered.hand_on.Given as goal

abbrev pub invariant-loop-done : goal.invariant-loop-done
invariant-loop-done g l =
    (l.done ≤ length l.piece) × (g.W.Out.fault l.out ≡ None)
    × Appends (g.W.Out.taken l.fn.out) (g.W.Out.taken l.out) (take l.done l.piece)

abbrev pub decreases-loop-done : goal.decreases-loop-done
decreases-loop-done g l = length l.piece - l.done
