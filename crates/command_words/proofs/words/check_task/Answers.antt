use Rattle.std.proofs.Common.{ap, ap₂}
use Rattle.std.specs.Prelude.{codes}
use Rattle.clap.specs.Walk.{first_of}
use Rattle.type_table.specs.declared.kind.Kind.{Kind}
use Rattle.command_words.specs.Words.{Text}
use Rattle.command_words.specs.Words as asked
use Rattle.command_words.proofs.words.check_task.Goals as goal

pub asked_kind-requires : goal.asked_kind-requires
asked_kind-requires c =
    let has = c.requires in
    (has.0, ap (first_of (codes "kind")) has.2)

pub file_word-requires : goal.file_word-requires
file_word-requires c =
    let has = c.requires in
    (has.1, ap (first_of (codes "path")) has.2)

pub returns : goal.returns
returns c kind path has =
    ap₂ (λ (k : Kind) (p : Text). asked.order (asked.check k p)) (c.asked_kind.ensures kind (ap (first_of (codes "kind")) has)) (c.file_word.ensures path (ap (first_of (codes "path")) has))
