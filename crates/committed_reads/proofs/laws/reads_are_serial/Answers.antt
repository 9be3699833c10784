use Rattle.committed_reads.proofs.Serial.{reads_are_serial}
use Rattle.committed_reads.proofs.laws.reads_are_serial.Goals as goal

pub returns : goal.returns
returns c = reads_are_serial c.runs_along.ensures c.ends_inside.ensures c.legal_ends.ensures c.headline.ensures c.committed_agrees.ensures
