use Rattle.script_run.specs.Turns.{open_in}
use Rattle.script_run.proofs.Aborts.{aborts-appended, closing-aborts}
use Rattle.script_run.proofs.laws.closing_aborts.Goals as goal

pub returns : goal.returns
returns c = record { all = λ H. aborts-appended H (open_in H); each = closing-aborts }
