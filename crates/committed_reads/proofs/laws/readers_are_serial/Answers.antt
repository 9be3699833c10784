use Rattle.committed_reads.proofs.Serial.{readers_are_serial}
use Rattle.committed_reads.proofs.laws.readers_are_serial.Goals as goal

pub returns : goal.returns
returns c = readers_are_serial c.run_is_history.ensures c.headline.ensures c.reads_are_serial.ensures
