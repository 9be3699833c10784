use Rattle.std.proofs.Common.{sym}
use Rattle.std.proofs.lemmas.Result.{on_ok_weaker}
use Rattle.type_commands.specs.Explain.{ExplainsFault, pair_as}
use Rattle.type_commands.proofs.Explaining.{adds_weaker, by_number, by_table, numeric_reason}
use Rattle.type_commands.proofs.explain.put_after_no.Goals as goal

pub put_why_not-requires-clause-first : goal.put_why_not-requires-clause-first
put_why_not-requires-clause-first g c = numeric_reason c.args.kind c.args.file.now c.args.refusal (sym c.in-None.ensures.exact) c.requires.first

pub returns-in-Some : goal.returns-in-Some
returns-in-Some g c =
    on_ok_weaker c.put_pairs.result
    (adds_weaker _ _ _ _ (λ text says. by_table c.args.file.now (pair_as c.args.asked) (ExplainsFault c.args.file.now.table) text c.args.kind c.in-Some.kind (sym c.in-Some.ensures.exact) says)) c.put_pairs.ensures

pub returns-in-None : goal.returns-in-None
returns-in-None g c =
    on_ok_weaker c.put_why_not.result
    (adds_weaker _ _ _ _ (λ text says. by_number c.args.file.now (pair_as c.args.asked) (ExplainsFault c.args.file.now.table) text c.args.kind (sym c.in-None.ensures.exact) says)) c.put_why_not.ensures
