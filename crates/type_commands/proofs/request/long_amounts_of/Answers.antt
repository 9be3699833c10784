use Rattle.std.proofs.Common.{◌≡◌, ◌∙◌, ap, rules, sym, true, false}
use Rattle.std.specs.Prelude.{Some}
use Rattle.type_commands.specs.Request.{long_parameter_of}
use Rattle.type_commands.proofs.RequestLemmas.{all_said, none_said, some_said}
use Rattle.type_commands.proofs.request.long_amounts_of.Goals as goal

pub returns-then-not-are_long_parameters : goal.returns-then-not-are_long_parameters
returns-then-not-are_long_parameters c =
    let fails : c.are_long_parameters.result ≡ false = search rules in
    none_said long_parameter_of c.args.words.now (sym c.are_long_parameters.ensures ∙ fails)

pub returns-in_err-long_parameters_among : goal.returns-in_err-long_parameters_among
returns-in_err-long_parameters_among c =
    let all : c.are_long_parameters.result ≡ true = search rules in
    let said = some_said _ _ (all_said long_parameter_of c.args.words.now (sym c.are_long_parameters.ensures ∙ all)) in
    search (rules, said)

pub returns : goal.returns
returns c =
    let all : c.are_long_parameters.result ≡ true = search rules in
    all_said long_parameter_of c.args.words.now (sym c.are_long_parameters.ensures ∙ all) ∙ ap Some (sym c.in_ok-long_parameters_among.ensures)
