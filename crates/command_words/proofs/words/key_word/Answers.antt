use Rattle.std.proofs.Common.{◌∙◌}
use Rattle.std.specs.Prelude.{codes}
use Rattle.clap.specs.Matches.{found_of}
use Rattle.clap.proofs.WalkLemmas.{first_value-rows}
use Rattle.command_words.proofs.ParseLemmas.{found_is, found_some}
use Rattle.command_words.proofs.words.key_word.Goals as goal

pub unwrap-requires : goal.unwrap-requires
unwrap-requires c =
    let has = c.requires in
    found_some _ c.get_str.result has.0 (c.get_str.ensures ∙ first_value-rows (found_of c.args.values.now) (codes "key") ∙ has.1)

pub returns : goal.returns
returns c path has =
    found_is _ c.get_str.result c.unwrap.result path c.unwrap.ensures (c.get_str.ensures ∙ first_value-rows (found_of c.args.values.now) (codes "key") ∙ has)
