use Rattle.number_text.proofs.CanonicalRead.{written_read}
use Rattle.number_text.proofs.laws.written_is_read.Goals as goal

pub returns : goal.returns
returns c = written_read c.canonical_is_read.ensures
