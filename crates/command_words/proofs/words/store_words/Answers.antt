use Rattle.std.proofs.Common.{◌∙◌, ap, refl}
use Rattle.std.specs.Prelude.{codes}
use Rattle.clap.specs.Matches.{found_of}
use Rattle.clap.specs.Walk.{texts}
use Rattle.clap.proofs.WalkLemmas.{first_value-rows, raw_values-rows}
use Rattle.command_words.proofs.ParseLemmas.{found_is, found_some, texts_read}
use Rattle.command_words.proofs.words.store_words.Goals as goal

pub unwrap-requires : goal.unwrap-requires
unwrap-requires c =
    let has = c.requires in
    found_some _ c.get_str.result has.0 (c.get_str.ensures ∙ first_value-rows (found_of c.args.values.now) (codes "path") ∙ has.2.path)

pub returns : goal.returns
returns c path types has =
    let path_is = found_is _ c.get_str.result c.unwrap.result path c.unwrap.ensures (c.get_str.ensures ∙ first_value-rows (found_of c.args.values.now) (codes "path") ∙ has.path) in
    let types_are = texts_read types c.get_strs.result c.unwrap_or-types.result _ _ c.unwrap_or-types.ensures refl
    (c.get_strs.ensures ∙ raw_values-rows (found_of c.args.values.now) (codes "types")) has.types in
    let copied = c.in_ok-to_vec.ensures.items_if_clones_equal (λ x y same. same) in
    (path_is, ap texts copied ∙ types_are)
