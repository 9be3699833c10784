use Rattle.std.proofs.Common.{◌∙◌, ap, subst, sym}
use Rattle.std.specs.Prelude.{codes, length, option_map, IfSome, ◌≢◌}
use Rattle.clap.specs.Matches.{found_of}
use Rattle.clap.proofs.WalkLemmas.{raw_values-rows}
use Rattle.command_words.specs.Words.{pair_of}
use Rattle.command_words.proofs.ParseLemmas.{no_pair, pair_found, pair_read}
use Rattle.command_words.proofs.words.asked_pair.Goals as goal

pub returns-in_err-words : goal.returns-in_err-words
returns-in_err-words c pair are =
    ap (option_map pair_of) c.from_residual.ensures
    ∙ no_pair c.get_strs.result _ pair (subst (λ o. IfSome o (λ s. length s.now ≢ 2)) (sym c.in_err-words.was) tt)
    (c.get_strs.ensures ∙ raw_values-rows (found_of c.args.values.now) (codes "pair")) are

pub returns-then-words-eq2 : goal.returns-then-words-eq2
returns-then-words-eq2 c pair are =
    pair_read c.in_ok-words.words.now pair _ c.if-words-eq2.true
    (pair_found c.get_strs.result c.in_ok-words.words _ pair c.in_ok-words.was (c.get_strs.ensures ∙ raw_values-rows (found_of c.args.values.now) (codes "pair")) are)

pub returns-else-words-eq2 : goal.returns-else-words-eq2
returns-else-words-eq2 c pair are =
    no_pair c.get_strs.result _ pair (subst (λ o. IfSome o (λ s. length s.now ≢ 2)) (sym c.in_ok-words.was) c.if-words-eq2.false)
    (c.get_strs.ensures ∙ raw_values-rows (found_of c.args.values.now) (codes "pair")) are
