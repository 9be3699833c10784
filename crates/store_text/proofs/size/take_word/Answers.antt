use Rattle.std.proofs.Common.{sym, refl}
use Rattle.store_text.proofs.Sizes.{no_words, word_and_rest, word_alone}
use Rattle.store_text.proofs.size.take_word.Goals as goal

pub returns-in_err-start : goal.returns-in_err-start
returns-in_err-start c = rw c.from_residual.ensures (no_words c.args.line.now (sym c.in_err-start.ensures.place))

pub returns-in-Some : goal.returns-in-Some
returns-in-Some c = word_and_rest c.args.line.now _ c.in_ok-start.start refl (sym c.in_ok-start.ensures.place) c.in-Some.end (sym c.in-Some.ensures.place)

pub returns-in-None : goal.returns-in-None
returns-in-None c = word_alone c.args.line.now _ c.in_ok-start.start refl (sym c.in_ok-start.ensures.place) (sym c.in-None.ensures.place)
