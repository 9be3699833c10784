use Rattle.type_text.proofs.SameFile.{lines_tell}
use Rattle.type_text.proofs.laws.lines_tell_the_file.Goals as goal

pub returns : goal.returns
returns c = lines_tell c.same_pairs.ensures
