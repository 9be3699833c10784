use Rattle.std.proofs.Common.{sym, ◌∙◌}
use Rattle.std.proofs.lemmas.Bool.{false≢true}
use Rattle.made_answers.proofs.worked.without_the_downs_it_is_not.Goals as goal

pub returns : goal.returns
returns c =
    let first = c.counter_without_the_downs_fails_first_at_them.ensures in
    λ yes. false≢true (sym (yes.yes.1.passes 1 1 1 first.inside) ∙ first.fails)
