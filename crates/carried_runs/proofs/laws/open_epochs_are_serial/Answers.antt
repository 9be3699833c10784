use Rattle.carried_runs.proofs.Opened.{open_epochs_are_serial}
use Rattle.carried_runs.proofs.laws.open_epochs_are_serial.Goals as goal

pub returns : goal.returns
returns c =
    open_epochs_are_serial c.committed_agrees.ensures c.runs_alike.ensures c.at_is_checked.ensures c.at_is_strong.ensures c.checked_is_covered.ensures
    c.checked_headline.ensures c.looks_extends.ensures c.equi_extends.ensures c.runs_along.ensures
