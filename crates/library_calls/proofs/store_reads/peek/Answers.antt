use Rattle.std.proofs.Common.{refl, ap, ◌∙◌}
use Rattle.library_calls.specs.Codes.{number}
use Rattle.library_calls.specs.Reads.{peeked, refused}
use Rattle.library_calls.specs.Words.{answer_words}
use Rattle.library_calls.proofs.store_reads.peek.Goals as goal

pub returns-in-Ok-clause-peeked : goal.returns-in-Ok-clause-peeked
returns-in-Ok-clause-peeked c = peeked c.in-Ok.found refl c.in-Ok.ensures (c.answer_words.ensures ∙ ap answer_words c.peek_answer.ensures) c.commits_of.ensures

pub returns-in-Err-clause-peeked : goal.returns-in-Err-clause-peeked
returns-in-Err-clause-peeked c = refused c.in-Err.refusal (ap number c.peek_code.ensures) c.in-Err.ensures
