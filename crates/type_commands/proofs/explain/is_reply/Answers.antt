use Rattle.std.proofs.Common.{◌∷◌, [], None, Some, ap, ◌∙◌}
use Rattle.std.specs.Str.{bytes_eq}
use Rattle.std.proofs.lemmas.Bool.Decides.{Decides-eqb}
use Rattle.std.proofs.lemmas.Slice.Eq.{strip_prefix_is}
use Rattle.type_commands.proofs.Words.{other_front, with_front}
use Rattle.type_commands.proofs.explain.is_reply.Goals as goal

pub returns-in-None : goal.returns-in-None
returns-in-None c =
    other_front (47 ∷ []) c.args.op.now.reply c.args.rest.now c.as_slice.result.now c.as_slice.ensures
    (strip_prefix_is Decides-eqb c.args.rest.now c.as_slice.result.now None c.in-None.ensures.cases)

pub returns-in-Some : goal.returns-in-Some
returns-in-Some c =
    with_front (47 ∷ []) c.args.op.now.reply c.args.rest.now c.as_slice.result.now c.as_slice.ensures c.in-Some.reply.now
    (strip_prefix_is Decides-eqb c.args.rest.now c.as_slice.result.now (Some c.in-Some.reply) c.in-Some.ensures.cases) c.eq.result
    (c.eq.ensures ∙ ap (λ l. bytes_eq l c.in-Some.reply.now) c.as_bytes.ensures.exact)
