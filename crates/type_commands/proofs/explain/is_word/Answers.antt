use Rattle.std.proofs.Common.{◌∷◌, None, Some}
use Rattle.std.proofs.lemmas.Bool.Decides.{Decides-eqb}
use Rattle.std.proofs.lemmas.Slice.Eq.{strip_prefix_is}
use Rattle.type_commands.proofs.Words.{other_front, with_front}
use Rattle.type_commands.proofs.explain.is_word.Goals as goal

pub returns-in-None : goal.returns-in-None
returns-in-None c =
    other_front c.args.op.now.call (47 ∷ c.args.op.now.reply) c.args.word.now c.as_bytes.result.now c.as_bytes.ensures.exact
    (strip_prefix_is Decides-eqb c.args.word.now c.as_bytes.result.now None c.in-None.ensures.cases)

pub returns-in-Some : goal.returns-in-Some
returns-in-Some c =
    with_front c.args.op.now.call (47 ∷ c.args.op.now.reply) c.args.word.now c.as_bytes.result.now c.as_bytes.ensures.exact c.in-Some.rest.now
    (strip_prefix_is Decides-eqb c.args.word.now c.as_bytes.result.now (Some c.in-Some.rest) c.in-Some.ensures.cases) c.is_reply.result c.is_reply.ensures
