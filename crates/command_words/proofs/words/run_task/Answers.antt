use Rattle.std.proofs.Common.{ap₂, List}
use Rattle.command_words.specs.Words.{Text}
use Rattle.command_words.specs.Words as asked
use Rattle.command_words.proofs.ParseLemmas.{store_read}
use Rattle.command_words.proofs.words.run_task.Goals as goal

pub store_words-requires : goal.store_words-requires
store_words-requires c =
    let has = c.requires in
    (has.0, has.1, store_read c.args.values.now has.0 has.1 has.2)

pub returns : goal.returns
returns c script types has =
    let read = c.in_ok-script.ensures script types (store_read c.args.values.now script types has) in
    ap₂ (λ (p : Text) (ts : List Text). asked.order (asked.run p ts)) read.0 read.1
