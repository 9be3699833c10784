use Rattle.library_calls.proofs.Attempted.{one-word}
use Rattle.library_calls.proofs.one_call.is_word.Goals as goal

pub returns-then-not-is_empty : goal.returns-then-not-is_empty
returns-then-not-is_empty c = λ free.
    one-word c.args.text.now c.is_empty.result c.contains.result c.is_empty.ensures c.if-not-is_empty.true c.contains.ensures.value free
