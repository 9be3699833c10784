use Rattle.std.proofs.Common.{ap, ap₂}
use Rattle.std.specs.Prelude.{codes}
use Rattle.clap.specs.Walk.{first_of}
use Rattle.command_words.specs.Words.{Text}
use Rattle.command_words.specs.Words as asked
use Rattle.command_words.proofs.words.outcome_task.Goals as goal

pub file_word-requires : goal.file_word-requires
file_word-requires c =
    let has = c.requires in
    (has.0, ap (first_of (codes "path")) has.2)

pub key_word-requires : goal.key_word-requires
key_word-requires c =
    let has = c.requires in
    (has.1, ap (first_of (codes "key")) has.2)

pub returns : goal.returns
returns c path key has =
    ap₂ (λ (p k : Text). asked.order (asked.outcome p k)) (c.file_word.ensures path (ap (first_of (codes "path")) has)) (c.key_word.ensures key (ap (first_of (codes "key")) has))
