-- The rows so far are one text that was taken whole.
use Rattle.std.proofs.Common.{Ok}
use Rattle.std.specs.List.{flat_map, range_with_len}
use Rattle.line_text.specs.Spelling.{text_of}
use Rattle.outputs.specs.Out.{Puts}
use Rattle.type_text.specs.Canonical.{words_of, lines_of_row}
use Rattle.type_text.proofs.write.write_entries.Given as goal

abbrev pub invariant-loop-row : goal.invariant-loop-row
invariant-loop-row g l =
    Puts (g.W.Out.taken l.fn.out) (g.W.Out.taken l.out) (g.W.Out.fault l.out) (text_of words_of (flat_map (lines_of_row l.file l.entries) (range_with_len 0 l.row))) (Ok tt)
