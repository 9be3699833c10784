use Rattle.std.proofs.Common.{arith, ◌∙◌}
use Rattle.std.proofs.lemmas.Grind.{common_steps}
use Rattle.outputs.proofs.GatheredLemmas.{done_more, fault_after-taken}
use Rattle.outputs.proofs.gathered.hand_on.Goals as goal

pub loop-done-preserved : goal.loop-done-preserved
loop-done-preserved g c =
    let (inside, clear, so_far) = c.loop-done.invariant in
    let n = c.in-Ok.count in
    let piece = c.args.piece.now in (
      grind (arith, common_steps, c.in-Ok.ensures.count),
      c.in-Ok.ensures.fault ∙ fault_after-taken n _ c.in-Ok.count-test.1,
      done_more _ _ _ piece c.loop-done.done n so_far c.in-Ok.ensures.bytes,
    )
