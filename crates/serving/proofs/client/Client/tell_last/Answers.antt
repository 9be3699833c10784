use Rattle.std.proofs.Common.{◌≡◌, ◌∙◌, ◌∷◌, [], ap, ap₂, sym, subst}
use Rattle.std.specs.Prelude.{OnErr}
use Rattle.outputs.specs.Gathered.{taken_by}
use Rattle.serving.specs.EpochEnd.{last_answers}
use Rattle.serving.specs.Told.{AppendsPart, answers_text}
use Rattle.serving.proofs.EndLemmas.{one-answer}
use Rattle.serving.proofs.client.Client.tell_last.Goals as goal

pub returns-in-Some-Some-clause-part : goal.returns-in-Some-Some-clause-part
returns-in-Some-Some-clause-part g c =
    let late = c.in-Some-Some.late in
    let both : late ∷ c.end_answer.result ∷ [] ≡ last_answers c.args.late c.args.end =
    ap (λ more. late ∷ more) (one-answer c.end_answer.result c.in-Some-Some.asked c.end_answer.ensures.tag c.end_answer.ensures.answer) ∙ ap₂ last_answers (sym c.in-Some-Some.is-0) (sym c.in-Some-Some.is-1) in
    subst (λ answers. OnErr c.tell.result (AppendsPart (taken_by g.W.Out.taken c.args.self.now.out) (taken_by g.W.Out.taken c.tell.new.self.out) (answers_text answers))) both c.tell.ensures.part

pub returns-in-Some-None-clause-part : goal.returns-in-Some-None-clause-part
returns-in-Some-None-clause-part g c = rw (c.in-Some-None.is-0, c.in-Some-None.is-1) c.tell-in-Some-None.ensures.part

pub returns-in-None-default-clause-part : goal.returns-in-None-default-clause-part
returns-in-None-default-clause-part g c = rw c.in-None-default.is-0 c.tell_end.ensures.part
