-- What is gone from `rest` was taken.
use Rattle.std.proofs.Common.{◌≡◌, List, ℕ, ◌++◌, Ok, length}
use Rattle.outputs.specs.Out.{Puts}
use Rattle.outputs.proofs.out.Out.put_piece.Given as goal

abbrev pub invariant-loop-rest : goal.invariant-loop-rest
invariant-loop-rest g l =
    (done : List ℕ) × (l.piece ≡ done ++ l.rest)
    × Puts (g.Self.Out.taken l.fn.self) (g.Self.Out.taken l.self) (g.Self.Out.fault l.self) done (Ok tt)

abbrev pub decreases-loop-rest : goal.decreases-loop-rest
decreases-loop-rest g l = length l.rest
