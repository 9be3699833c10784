use Rattle.serving.specs.Told.{answers_text}
use Rattle.type_table.proofs.Results.{on_err}
use Rattle.serving.proofs.TextParts.{part-of-whole}
use Rattle.serving.proofs.client.Client.tell.Goals as goal

pub returns-clause-part : goal.returns-clause-part
returns-clause-part g c = on_err c.flush.result (part-of-whole _ _ _ (answers_text c.args.answers.now) c.in_ok-put_answers.ensures.whole c.flush.ensures.bytes)
