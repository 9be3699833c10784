use Rattle.std.proofs.Common.{◌∙◌, sym}
use Rattle.request_text.proofs.Cuts.{first-word, only-word}
use Rattle.request_text.proofs.one_call.cut.Goals as goal

pub returns-in-Some : goal.returns-in-Some
returns-in-Some c = first-word c.args.text.now c.in-Some.at (sym c.space_in.ensures.place ∙ c.in-Some.is)

pub returns-in-None : goal.returns-in-None
returns-in-None c = only-word c.args.text.now (sym c.space_in.ensures.place ∙ c.in-None.is)
