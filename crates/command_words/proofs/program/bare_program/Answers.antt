use Rattle.std.proofs.Common.{◌≡◌, ◌∙◌, rules, ap}
use Rattle.std.proofs.lemmas.Result.{IfOk-weaker}
use Rattle.clap.specs.Simple.{app_of, app_of_fields}
use Rattle.command_words.specs.Program.{bare_program}
use Rattle.command_words.proofs.program.bare_program.Goals as goal

pub returns : goal.returns
returns c =
    let set_is : app_of c.subcommand_required.result ≡ bare_program = search rules in
    IfOk-weaker c.bin_name.result _ _ (λ command named. ap app_of_fields named.0 ∙ set_is) c.bin_name.ensures
