use Rattle.std.proofs.Common.{Some, sym, ap, ◌∙◌}
use Rattle.number_types.proofs.Tables.{bounds_at_number}
use Rattle.number_types.proofs.number_file.NumberFile.bounded.Goals as goal

pub returns : goal.returns
returns c = bounds_at_number c.args.self.now c.args.k c.requires ∙ ap Some (sym c.done.ensures)
