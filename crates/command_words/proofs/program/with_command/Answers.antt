use Rattle.std.proofs.Common.{◌∙◌, ap, subst, IfOk}
use Rattle.std.proofs.lemmas.Result.{IfOk-weaker}
use Rattle.clap.specs.Simple.{App, app_of, with_subcommand}
use Rattle.command_words.specs.Program.{IsCommand}
use Rattle.command_words.proofs.program.with_command.Goals as goal

pub returns : goal.returns
returns c a is =
    let given = subst (λ r. IfOk r (IsCommand a)) c.in_ok-command.was is in
    IfOk-weaker c.subcommand.result _ _ (λ whole added. added.shape given.0 ∙ ap (λ (app : App). with_subcommand (app_of c.args.program) app.top) given.1) c.subcommand.ensures
