-- The lines so far are one text that was taken whole, and their names are names.
use Rattle.std.proofs.Common.{Ok, take, map}
use Rattle.std.specs.List.{All}
use Rattle.line_text.specs.Spelling.{text_of}
use Rattle.outputs.specs.Out.{Puts}
use Rattle.type_text.specs.Canonical.{words_of, IsNamed}
use Rattle.type_text.specs.declared.type_line.TypeLine.TheVariants.{Operation}
use Rattle.type_text.proofs.write.write_ops.Given as goal

abbrev pub invariant-loop-op : goal.invariant-loop-op
invariant-loop-op g l =
    Puts (g.W.Out.taken l.fn.out) (g.W.Out.taken l.out) (g.W.Out.fault l.out) (text_of words_of (map Operation (take l.op-index l.ops))) (Ok tt)
    × All (λ op. IsNamed (Operation op)) (take l.op-index l.ops)
