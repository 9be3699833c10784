use Rattle.std.proofs.Common.{◌∙◌, refl, sym}
use Rattle.serving.proofs.ServedBytes.{asked-answered}
use Rattle.serving.proofs.session.Session.do_asked.Goals as goal

pub returns-clause-does : goal.returns-clause-does
returns-clause-does g c =
    asked-answered g.S.Store c.args.self.now c.args.line.now c.args.asked _ c.answer.new.self c.requires.sound c.requires.asked (sym c.is_taken.ensures ∙ c.if-is_taken.false) c.in_ok-answer-2.ensures.stays_in_epoch c.answer.ensures.waits refl
    c.in_ok-answer-2.ensures.keys c.in_ok-answer-2.ensures.rows c.in_ok-answer-2.ensures.does
