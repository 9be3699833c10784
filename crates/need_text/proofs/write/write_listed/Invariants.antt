use Rattle.std.proofs.Common.{Ok, take, ◌∷◌}
use Rattle.std.specs.List.{flat_map}
use Rattle.outputs.specs.Out.{Puts}
use Rattle.need_text.specs.Text.{op_word}
use Rattle.need_text.proofs.write.write_listed.Given as goal

abbrev pub invariant-loop-k : goal.invariant-loop-k
invariant-loop-k g l = Puts (g.W.Out.taken l.fn.out) (g.W.Out.taken l.out) (g.W.Out.fault l.out) (flat_map (λ k. 32 ∷ op_word l.ops k) (take l.k-index l.numbers)) (Ok tt)
