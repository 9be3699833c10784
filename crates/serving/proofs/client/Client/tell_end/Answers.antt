use Rattle.std.proofs.Common.{◌≡◌, ◌∙◌, ◌∷◌, [], ap, sym, subst}
use Rattle.std.specs.Prelude.{OnErr}
use Rattle.outputs.specs.Gathered.{taken_by}
use Rattle.serving.specs.EpochEnd.{end_answers}
use Rattle.serving.specs.Told.{AppendsPart, answers_text}
use Rattle.serving.proofs.EndLemmas.{one-answer}
use Rattle.serving.proofs.client.Client.tell_end.Goals as goal

pub returns-in-Some-clause-part : goal.returns-in-Some-clause-part
returns-in-Some-clause-part g c =
    let one : c.end_answer.result ∷ [] ≡ end_answers c.args.end = one-answer c.end_answer.result c.in-Some.asked c.end_answer.ensures.tag c.end_answer.ensures.answer ∙ ap end_answers (sym c.in-Some.is) in
    subst (λ answers. OnErr c.tell.result (AppendsPart (taken_by g.W.Out.taken c.args.self.now.out) (taken_by g.W.Out.taken c.tell.new.self.out) (answers_text answers))) one c.tell.ensures.part
