use Rattle.made_answers.proofs.Amounts.{amounts_are_accepted}
use Rattle.made_answers.proofs.Numeric.{AreAnswered}
use Rattle.made_answers.proofs.laws.amounts_are_accepted.Goals as goal

pub returns : goal.returns
returns c =
    let known : AreAnswered = record {
      one = c.one_answer.ensures;
      bounds = c.bounds_are_numeric.ensures;
      exact = c.made_is_exact.ensures;
      strong = c.made_is_strong.ensures;
      sets = c.families_have_closed_sets.ensures;
      families = c.families_are_accepted.ensures;
      numeric = c.numeric_is_strong.ensures;
    } in
    amounts_are_accepted known c.steps_within.ensures c.bounds_are_told.ensures
