use Rattle.type_text.proofs.SameFile.{written-read}
use Rattle.type_text.proofs.laws.written_is_read.Goals as goal

pub returns : goal.returns
returns c = written-read c.canonical_is_read.ensures c.lines_tell_the_file.ensures
