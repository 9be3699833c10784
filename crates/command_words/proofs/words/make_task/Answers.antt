use Rattle.std.proofs.Common.{◌∙◌, ap, ap₂, refl}
use Rattle.std.specs.Prelude.{codes}
use Rattle.clap.specs.Walk.{texts}
use Rattle.command_words.specs.Words.{Order, Text}
use Rattle.command_words.specs.Words as asked
use Rattle.command_words.proofs.ParseLemmas.{found_is, found_some, items_read, value_read, values_read}
use Rattle.command_words.proofs.words.make_task.Goals as goal

pub unwrap-requires : goal.unwrap-requires
unwrap-requires c =
    let has = c.requires in
    found_some _ c.get_str.result has.0 (c.get_str.ensures ∙ value_read c.args.values.now (asked.make has.0 has.1 has.2) (codes "family") has.3)

pub unwrap-requires-2 : goal.unwrap-requires-2
unwrap-requires-2 c =
    let has = c.requires in
    found_some _ c.get_str-2.result has.1 (c.get_str-2.ensures ∙ value_read c.args.values.now (asked.make has.0 has.1 has.2) (codes "size") has.3)

pub returns : goal.returns
returns c family size items has =
    let family_is = found_is _ c.get_str.result c.unwrap.result family c.unwrap.ensures (c.get_str.ensures ∙ value_read c.args.values.now (asked.make family size items) (codes "family") has) in
    let size_is = found_is _ c.get_str-2.result c.unwrap-2.result size c.unwrap-2.ensures (c.get_str-2.ensures ∙ value_read c.args.values.now (asked.make family size items) (codes "size") has) in
    let items_are = items_read family size items c.get_strs.result c.unwrap_or-items.result _ c.unwrap_or-items.ensures refl
    (c.get_strs.ensures ∙ values_read c.args.values.now (asked.make family size items) (codes "items") has) in
    let copied = c.in_ok-to_vec.ensures.items_if_clones_equal (λ x y same. same) in
    ap (λ (o : Order). asked.order o) (ap₂ (λ (f s : Text). asked.make f s (texts c.in_ok-to_vec.field-0.items)) family_is size_is ∙ ap (asked.make family size) (ap texts copied ∙ items_are))
