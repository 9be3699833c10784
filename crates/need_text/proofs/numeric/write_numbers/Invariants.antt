use Rattle.std.proofs.Common.{Ok, take, ◌∷◌}
use Rattle.std.specs.List.{flat_map}
use Rattle.outputs.specs.Out.{Puts}
use Rattle.std.specs.Fmt.{decimal}
use Rattle.need_text.proofs.numeric.write_numbers.Given as goal

abbrev pub invariant-loop-n : goal.invariant-loop-n
invariant-loop-n g l = Puts (g.W.Out.taken l.fn.out) (g.W.Out.taken l.out) (g.W.Out.fault l.out) (flat_map (λ n. 32 ∷ decimal n) (take l.n-index l.numbers)) (Ok tt)
