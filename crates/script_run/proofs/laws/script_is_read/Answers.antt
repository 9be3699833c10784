use Rattle.script_run.proofs.HistoryLines.{script-read}
use Rattle.script_run.proofs.laws.script_is_read.Goals as goal

pub returns : goal.returns
returns c = script-read c.comments_tell_nothing.ensures c.canonical_is_read.ensures c.text_tells_history.ensures
