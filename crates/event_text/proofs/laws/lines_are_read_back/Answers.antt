use Rattle.event_text.proofs.ReadBack.{read-back}
use Rattle.event_text.proofs.laws.lines_are_read_back.Goals as goal

pub returns : goal.returns
returns c = read-back
