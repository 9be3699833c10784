-- The lines so far are one text that was taken whole.
use Rattle.std.proofs.Common.{Ok, take, map}
use Rattle.line_text.specs.Spelling.{text_of}
use Rattle.outputs.specs.Out.{Puts}
use Rattle.history_text.specs.Canonical.{words_of, object_line}
use Rattle.epoch_text.proofs.write.write_objects.Given as goal

abbrev pub invariant-loop-object : goal.invariant-loop-object
invariant-loop-object g l =
    Puts (g.W.Out.taken l.fn.out) (g.W.Out.taken l.out) (g.W.Out.fault l.out) (text_of words_of (map object_line (take l.object-index l.objects))) (Ok tt)
