use Rattle.std.proofs.Common.{◌≡◌, ◌∙◌, true, false, [], Some, sym, ap}
use Rattle.std.specs.Prelude.{codes}
use Rattle.std.specs.Str.{bytes_eq}
use Rattle.line_text.specs.Text.{words_of}
use Rattle.store_text.specs.Size.{size_in}
use Rattle.store_text.proofs.Sizes.{size_of_key, size_of_none}
use Rattle.store_text.proofs.size.size_in.Goals as goal

pub returns-in-Some-clause-exact : goal.returns-in-Some-clause-exact
returns-in-Some-clause-exact c =
    let key = c.in-Some.key.now in
    let is : bytes_eq key (codes "objects") ≡ true = sym (c.eq.ensures ∙ ap (bytes_eq key) c.as_slice.ensures) ∙ c.if-eq.true in
    ap Some (c.size_said.ensures.exact key) ∙ sym (ap size_in c.in-Some.ensures ∙ size_of_key key (words_of c.in-Some.rest.now) true is)

pub returns-in_default-clause-exact : goal.returns-in_default-clause-exact
returns-in_default-clause-exact c =
    let key = c.in-Some.key.now in
    let is : bytes_eq key (codes "objects") ≡ false = sym (c.eq.ensures ∙ ap (bytes_eq key) c.as_slice.ensures) ∙ c.if-eq.false in
    sym (ap size_in c.in-Some.ensures ∙ size_of_key key (words_of c.in-Some.rest.now) false is)

pub returns-in_default-2-clause-exact : goal.returns-in_default-2-clause-exact
returns-in_default-2-clause-exact c =
    let none : words_of c.args.line.now ≡ [] = rw c.in_default.is at c.take_word.ensures in
    sym (ap size_in none ∙ size_of_none)
