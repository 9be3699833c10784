use Rattle.line_text.proofs.WorkedTexts.{worked_texts}
use Rattle.line_text.proofs.worked.worked_texts.Goals as goal

pub returns : goal.returns
returns c = worked_texts
