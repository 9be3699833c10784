-- The lines so far are one text that was taken whole.
use Rattle.std.proofs.Common.{Ok, take}
use Rattle.std.specs.List.{flat_map}
use Rattle.outputs.specs.Out.{Puts}
use Rattle.number_text.proofs.Writing.{call_text}
use Rattle.number_text.proofs.write.write_calls.Given as goal

abbrev pub invariant-loop-listed : goal.invariant-loop-listed
invariant-loop-listed g l =
    Puts (g.W.Out.taken l.fn.out) (g.W.Out.taken l.out) (g.W.Out.fault l.out) (flat_map call_text (take l.listed-index l.calls)) (Ok tt)
