use Rattle.std.proofs.Common.{◌∙◌, ap, ap₂}
use Rattle.std.specs.Prelude.{codes, option_map, unwrap_or, [], Option, List}
use Rattle.clap.specs.Walk.{Row, all_of, first_of}
use Rattle.type_table.specs.declared.kind.Kind.{Kind}
use Rattle.command_words.specs.Words.{Text, pair_of}
use Rattle.command_words.specs.Words as asked
use Rattle.command_words.proofs.ParseLemmas.{pair_rows}
use Rattle.command_words.proofs.words.explain_task.Goals as goal

pub asked_kind-requires : goal.asked_kind-requires
asked_kind-requires c =
    let has = c.requires in
    (has.0, ap (first_of (codes "kind")) has.3)

pub file_word-requires : goal.file_word-requires
file_word-requires c =
    let has = c.requires in
    (has.1, ap (first_of (codes "path")) has.3)

pub returns : goal.returns
returns c kind path pair has =
    let pair_is = c.asked_pair.ensures pair (ap (λ (rows : List Row). unwrap_or (all_of (codes "pair") rows) []) has ∙ pair_rows kind path pair) in
    ap₂ (λ (k : Kind) (p : Text). asked.order (asked.explain k p (option_map pair_of c.asked_pair.result))) (c.asked_kind.ensures kind (ap (first_of (codes "kind")) has)) (c.file_word.ensures path (ap (first_of (codes "path")) has))
    ∙ ap (λ (o : Option (Text × Text)). asked.order (asked.explain kind path o)) pair_is
