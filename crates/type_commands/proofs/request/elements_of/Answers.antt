use Rattle.std.proofs.Common.{◌≡◌, ◌∙◌, ap, rules, sym, true, false}
use Rattle.std.specs.Prelude.{Some}
use Rattle.type_commands.specs.Request.{name_of_text}
use Rattle.type_commands.proofs.RequestLemmas.{all_said, none_said, some_said}
use Rattle.type_commands.proofs.request.elements_of.Goals as goal

pub returns-then-not-are_names : goal.returns-then-not-are_names
returns-then-not-are_names c =
    let fails : c.are_names.result ≡ false = search rules in
    none_said name_of_text c.args.words.now (sym c.are_names.ensures ∙ fails)

pub returns-in_err-names_among : goal.returns-in_err-names_among
returns-in_err-names_among c =
    let all : c.are_names.result ≡ true = search rules in
    let said = some_said _ _ (all_said name_of_text c.args.words.now (sym c.are_names.ensures ∙ all)) in
    search (rules, said)

pub returns : goal.returns
returns c =
    let all : c.are_names.result ≡ true = search rules in
    all_said name_of_text c.args.words.now (sym c.are_names.ensures ∙ all) ∙ ap Some (sym c.in_ok-names_among.ensures)
