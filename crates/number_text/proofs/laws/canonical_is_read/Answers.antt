use Rattle.number_text.proofs.CanonicalRead.{canonical_read}
use Rattle.number_text.proofs.laws.canonical_is_read.Goals as goal

pub returns : goal.returns
returns c = canonical_read c.canonical_reads_again.ensures c.names_are_words.ensures
