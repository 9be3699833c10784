use Rattle.std.proofs.Common.{ap}
use Rattle.std.specs.Prelude.{codes}
use Rattle.clap.specs.Walk.{first_of}
use Rattle.command_words.specs.Words.{Text}
use Rattle.command_words.specs.Words as asked
use Rattle.command_words.proofs.words.prepared_task.Goals as goal

pub file_word-requires : goal.file_word-requires
file_word-requires c =
    let has = c.requires in
    (has.0, ap (first_of (codes "path")) has.1)

pub returns : goal.returns
returns c path has = ap (λ (p : Text). asked.order (asked.prepared p)) (c.file_word.ensures path (ap (first_of (codes "path")) has))
