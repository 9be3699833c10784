use Rattle.std.proofs.Common.{inr, refl}
use Rattle.line_text.proofs.Lines.{lines_of-first}
use Rattle.line_text.proofs.cut.cut_line.Goals as goal

pub returns-in-Err : goal.returns-in-Err
returns-in-Err c =
    let l = lines_of-first c.args.text.now c.requires in
    record { line = l.0; after = l.1; first = l.2; refused = inr refl }
