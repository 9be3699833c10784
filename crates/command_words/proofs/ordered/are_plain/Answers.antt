use Rattle.std.proofs.Common.{refl}
use Rattle.command_words.proofs.OrderedLemmas.{plain_all, plain_at, plain_more}
use Rattle.command_words.proofs.ordered.are_plain.Goals as goal

pub returns-then-not-is_plain-clause-other : goal.returns-then-not-is_plain-clause-other
returns-then-not-is_plain-clause-other c = λ is all. c.if-not-is_plain.ensures.other refl (plain_at c.args.words.now c.loop-word.word-index _ c.loop-word-test.true all)

pub loop-word-preserved : goal.loop-word-preserved
loop-word-preserved c = plain_more c.args.words.now c.loop-word.word-index _ c.loop-word-test.true c.loop-word.invariant (c.if-not-is_plain.ensures.plain refl)

pub returns-clause-plain : goal.returns-clause-plain
returns-clause-plain c = λ is. plain_all c.args.words.now c.loop-word.word-index c.loop-word-test.false c.loop-word.invariant
