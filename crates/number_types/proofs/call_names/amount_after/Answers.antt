use Rattle.std.proofs.Common.{None, Some}
use Rattle.std.proofs.lemmas.Bool.Decides.{Decides-eqb}
use Rattle.std.proofs.lemmas.Slice.Eq.{strip_prefix_is}
use Rattle.number_types.proofs.Amounts.{other_word, amount_behind}
use Rattle.number_types.proofs.call_names.amount_after.Goals as goal

pub returns-in_err-digits : goal.returns-in_err-digits
returns-in_err-digits c =
    rw c.from_residual.ensures
    (other_word c.args.word.now c.args.name.now (strip_prefix_is Decides-eqb c.args.name.now c.args.word.now None c.in_err-digits.ensures.cases))

pub returns : goal.returns
returns c =
    amount_behind c.args.word.now c.args.name.now c.in_ok-digits.digits.now c.amount_of.result
    (strip_prefix_is Decides-eqb c.args.name.now c.args.word.now (Some c.in_ok-digits.digits) c.in_ok-digits.ensures.cases) c.amount_of.ensures
