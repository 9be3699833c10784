-- The sections so far are one text that was taken whole.
use Rattle.std.proofs.Common.{Ok, take}
use Rattle.std.specs.List.{flat_map}
use Rattle.line_text.specs.Spelling.{text_of}
use Rattle.outputs.specs.Out.{Puts}
use Rattle.type_text.specs.Canonical.{words_of, lines_of_entries}
use Rattle.type_text.proofs.write.write_sections.Given as goal

abbrev pub invariant-loop-entries : goal.invariant-loop-entries
invariant-loop-entries g l =
    Puts (g.W.Out.taken l.fn.out) (g.W.Out.taken l.out) (g.W.Out.fault l.out) (text_of words_of (flat_map (lines_of_entries l.file) (take l.entries-index l.entries-items))) (Ok tt)
