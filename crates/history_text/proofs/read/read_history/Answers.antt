use Rattle.history_text.proofs.Fit.{is_history, is_fit}
use Rattle.history_text.proofs.read.read_history.Goals as goal

pub returns-clause-exact : goal.returns-clause-exact
returns-clause-exact c =
    let read = c.in_ok-parts.ensures.exact in
    (read.0, read.1, is_history read.0 c.in_ok-parts.parts c.shrink_to_fit.new.self c.shrink_to_fit.ensures.items read.2)

pub returns-clause-fit : goal.returns-clause-fit
returns-clause-fit c = is_fit c.in_ok-parts.parts c.shrink_to_fit.new.self c.shrink_to_fit.ensures.items c.in_ok-parts.ensures.fit
