use Rattle.std.proofs.Common.{◌∙◌, ap, sym}
use Rattle.std.specs.Prelude.{codes}
use Rattle.std.specs.Str.{bytes_eq}
use Rattle.declared_text.specs.Declared.{words_in}
use Rattle.declared_text.proofs.FirstWords.{key_of_first, key_of_none}
use Rattle.declared_text.proofs.first_word.is_of_number.Goals as goal

pub returns-in-Some : goal.returns-in-Some
returns-in-Some c =
    let word = c.in-Some.word.now in
    c.eq.ensures ∙ ap (bytes_eq word) c.as_slice.ensures ∙ sym (key_of_first (words_in c.args.text.now) word (codes "number") c.in-Some.ensures)

pub returns-in-None : goal.returns-in-None
returns-in-None c = sym (key_of_none _ c.in-None.ensures)
