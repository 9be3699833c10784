-- The lines so far were taken whole, and those of the rest are left.
use Rattle.std.proofs.Common.{◌≡◌, ℕ, List, ◌++◌, length, Ok}
use Rattle.std.specs.Prelude.{◌==◌}
use Rattle.std.specs.List.{flat_map, slice_split}
use Rattle.outputs.specs.Out.{Puts}
use Rattle.serving.specs.AnswerText.{behind}
use Rattle.serving.proofs.answer_text.put_text.Given as goal

abbrev pub invariant-loop-at : goal.invariant-loop-at
invariant-loop-at g l =
    (done : List (List ℕ)) × (slice_split (λ b. b == 10) l.text ≡ done ++ slice_split (λ b. b == 10) l.rest)
    × Puts (g.W.Out.taken l.fn.out) (g.W.Out.taken l.out) (g.W.Out.fault l.out) (flat_map (behind l.tag) done) (Ok tt)

abbrev pub decreases-loop-at : goal.decreases-loop-at
decreases-loop-at g l = length l.rest
