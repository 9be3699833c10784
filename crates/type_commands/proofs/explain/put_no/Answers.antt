use Rattle.std.proofs.Common.{◌≡◌, ◌∙◌}
use Rattle.std.proofs.lemmas.Result.{on_ok_weaker}
use Rattle.command_files.specs.Refusals.{no_line}
use Rattle.type_commands.proofs.Explaining.{adds_both}
use Rattle.type_commands.proofs.explain.put_no.Goals as goal

pub returns : goal.returns
returns g c =
    let says : c.as_bytes.result.now ≡ no_line c.args.refusal = c.as_bytes.ensures.value ∙ c.in_ok-line.ensures in
    on_ok_weaker c.put_after_no.result (adds_both _ _ _ _ _ c.as_bytes.result.now says c.in_ok-put.ensures.whole) c.put_after_no.ensures
