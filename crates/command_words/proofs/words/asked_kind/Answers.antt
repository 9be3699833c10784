use Rattle.std.proofs.Common.{◌∙◌, sym}
use Rattle.std.specs.Prelude.{codes}
use Rattle.clap.specs.Matches.{found_of}
use Rattle.clap.proofs.WalkLemmas.{first_value-rows}
use Rattle.type_table.specs.Kind.{kind_word}
use Rattle.command_words.proofs.ParseLemmas.{found_is, found_some, some_of}
use Rattle.command_words.proofs.words.asked_kind.Goals as goal

pub unwrap-requires : goal.unwrap-requires
unwrap-requires c =
    let has = c.requires in
    found_some _ c.get_str.result (kind_word has.0) (c.get_str.ensures ∙ first_value-rows (found_of c.args.values.now) (codes "kind") ∙ has.1)

pub unwrap-requires-2 : goal.unwrap-requires-2
unwrap-requires-2 c =
    let has = c.requires in
    let word = found_is _ c.get_str.result c.unwrap.result (kind_word has.0) c.unwrap.ensures (c.get_str.ensures ∙ first_value-rows (found_of c.args.values.now) (codes "kind") ∙ has.1) in
    some_of c.of_word.result has.0 (c.of_word.ensures.named has.0 (sym (c.as_bytes.ensures.value ∙ word)))

pub returns : goal.returns
returns c kind is =
    let word = found_is _ c.get_str.result c.unwrap.result (kind_word kind) c.unwrap.ensures (c.get_str.ensures ∙ first_value-rows (found_of c.args.values.now) (codes "kind") ∙ is) in
    let named = c.of_word.ensures.named kind (sym (c.as_bytes.ensures.value ∙ word)) in
    cc (named, c.unwrap-2.ensures)
