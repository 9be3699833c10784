use Rattle.epoch_text.proofs.SameLines.{lines-same, text-same}
use Rattle.epoch_text.proofs.laws.lines_are_canonical.Goals as goal

pub returns-clause-lines : goal.returns-clause-lines
returns-clause-lines c = lines-same

pub returns-clause-text : goal.returns-clause-text
returns-clause-text c = text-same
