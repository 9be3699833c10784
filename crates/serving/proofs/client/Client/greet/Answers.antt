use Rattle.serving.specs.Told.{greeting}
use Rattle.type_table.proofs.Results.{on_err}
use Rattle.serving.proofs.TextParts.{part-of-whole}
use Rattle.serving.proofs.client.Client.greet.Goals as goal

pub returns-clause-part : goal.returns-clause-part
returns-clause-part g c = on_err c.flush.result (part-of-whole _ _ _ (greeting c.args.life) c.in_ok-put_greeting.ensures.whole c.flush.ensures.bytes)
