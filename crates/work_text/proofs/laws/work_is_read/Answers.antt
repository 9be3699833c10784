use Rattle.work_text.proofs.Read.{work_read}
use Rattle.work_text.proofs.laws.work_is_read.Goals as goal

pub returns : goal.returns
returns c = work_read c.comments_tell_nothing.ensures c.canonical_is_read.ensures
