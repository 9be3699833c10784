use Rattle.script_text.proofs.Fit.{is_fit}
use Rattle.script_text.proofs.read.read_script.Goals as goal

pub returns-clause-fit : goal.returns-clause-fit
returns-clause-fit c = is_fit c.in_ok-parts.parts c.shrink_to_fit.new.self c.shrink_to_fit.ensures c.in_ok-parts.ensures.fit
