-- The cells so far are one text that was taken whole.
use Rattle.std.proofs.Common.{Ok}
use Rattle.std.specs.List.{flat_map, range_with_len}
use Rattle.std.specs.Option.{option_to_list}
use Rattle.line_text.specs.Spelling.{text_of}
use Rattle.outputs.specs.Out.{Puts}
use Rattle.type_text.specs.Canonical.{words_of, line_at}
use Rattle.type_text.proofs.write.write_row.Given as goal

abbrev pub invariant-loop-column : goal.invariant-loop-column
invariant-loop-column g l =
    Puts (g.W.Out.taken l.fn.out) (g.W.Out.taken l.out) (g.W.Out.fault l.out) (text_of words_of (flat_map (λ column. option_to_list (line_at l.file l.entries l.row column)) (range_with_len 0 l.column))) (Ok tt)
