use Rattle.std.proofs.Common.{◌<◌, length, sym, arith}
use Rattle.std.proofs.lemmas.Bool.{eqb-false}
use Rattle.std.proofs.lemmas.List.{take_rest, drop_all}
use Rattle.line_text.proofs.Lines.{lines_of-ended, lines_of-last}
use Rattle.line_text.proofs.line.take_line.Goals as goal

pub returns-in-Some-clause-lines : goal.returns-in-Some-clause-lines
returns-in-Some-clause-lines c = rw take_rest (lines_of-ended c.args.text.now c.in-Some.end (sym c.in-Some.ensures.place))

pub returns-in-None-clause-lines : goal.returns-in-None-clause-lines
returns-in-None-clause-lines c =
    let text = c.args.text.now in
    let some : 0 < length text = omega (arith, eqb-false (length text) 0 (sym c.if-is_empty.ensures)) in
    rw (take_rest, drop_all (length text) text (omega arith)) (lines_of-last text some (sym c.in-None.ensures.place))
