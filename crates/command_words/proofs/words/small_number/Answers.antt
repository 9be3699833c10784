use Rattle.std.proofs.Common.{◌∙◌}
use Rattle.clap.specs.Matches.{found_of}
use Rattle.clap.proofs.WalkLemmas.{one_text-rows}
use Rattle.command_words.proofs.NumberLemmas.{number_some, number_is}
use Rattle.command_words.proofs.words.small_number.Goals as goal

pub unwrap-requires : goal.unwrap-requires
unwrap-requires c =
    let has = c.requires in
    let read = c.get_one.ensures.value has.2.0 (one_text-rows (found_of c.args.values.now) c.args.id.now ∙ has.2.1) in
    number_some 8 has.0 has.2.0 c.get_one.result has.2.2 has.1 read

pub returns : goal.returns
returns c n has =
    let read = c.get_one.ensures.value has.0 (one_text-rows (found_of c.args.values.now) c.args.id.now ∙ has.1) in
    number_is 8 n c.unwrap.result has.0 c.get_one.result has.2 read c.unwrap.ensures
