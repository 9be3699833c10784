use Rattle.std.proofs.Common.{◌≡◌, ◌∙◌, ap, rules, sym, true, false}
use Rattle.std.specs.Prelude.{Some}
use Rattle.type_commands.specs.Request.{parameter_of}
use Rattle.type_commands.proofs.RequestLemmas.{all_said, none_said, some_said}
use Rattle.type_commands.proofs.request.amounts_of.Goals as goal

pub returns-then-not-are_parameters : goal.returns-then-not-are_parameters
returns-then-not-are_parameters c =
    let fails : c.are_parameters.result ≡ false = search rules in
    none_said parameter_of c.args.words.now (sym c.are_parameters.ensures ∙ fails)

pub returns-in_err-parameters_among : goal.returns-in_err-parameters_among
returns-in_err-parameters_among c =
    let all : c.are_parameters.result ≡ true = search rules in
    let said = some_said _ _ (all_said parameter_of c.args.words.now (sym c.are_parameters.ensures ∙ all)) in
    search (rules, said)

pub returns : goal.returns
returns c =
    let all : c.are_parameters.result ≡ true = search rules in
    all_said parameter_of c.args.words.now (sym c.are_parameters.ensures ∙ all) ∙ ap Some (sym c.in_ok-parameters_among.ensures)
