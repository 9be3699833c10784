use Rattle.history_judge.proofs.Rows.{moved_rows_agree}
use Rattle.history_judge.proofs.laws.moved_rows_agree.Goals as goal

pub returns : goal.returns
returns c = moved_rows_agree c.summary_after.ensures c.history_opens_after.ensures c.own_after.ensures
