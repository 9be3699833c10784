use Rattle.std.proofs.Common.{◌∙◌, ap, refl}
use Rattle.std.specs.Prelude.{codes}
use Rattle.clap.specs.Matches.{found_of}
use Rattle.clap.specs.Walk.{texts}
use Rattle.clap.proofs.WalkLemmas.{raw_values-rows}
use Rattle.command_words.proofs.ParseLemmas.{audit_is, texts_read}
use Rattle.command_words.proofs.words.audit_task.Goals as goal

pub store_words-requires : goal.store_words-requires
store_words-requires c =
    let has = c.requires in
    (has.0.history, has.0.types, has.1.store)

pub returns : goal.returns
returns c a has =
    let read = c.in_ok-history.ensures a.history a.types has.store in
    let later_are = texts_read a.later c.get_strs.result c.unwrap_or.result _ _ c.unwrap_or.ensures refl
    (c.get_strs.ensures ∙ raw_values-rows (found_of c.args.values.now) (codes "then")) has.later in
    let copied = c.in_ok-later.ensures.items_if_clones_equal (λ x y same. same) in
    audit_is a _ _ _ read.0 (ap texts copied ∙ later_are) read.1
