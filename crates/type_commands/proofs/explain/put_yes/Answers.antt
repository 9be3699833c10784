use Rattle.std.proofs.Common.{◌∙◌}
use Rattle.std.proofs.lemmas.Result.{on_ok_weaker}
use Rattle.type_commands.specs.Explain.{IsYesLine}
use Rattle.type_commands.proofs.Explaining.{adds_both}
use Rattle.type_commands.proofs.explain.put_yes.Goals as goal

pub returns : goal.returns
returns g c =
    let says : IsYesLine c.args.checked.now c.as_bytes.result.now = (c.is_strong.result, c.is_strong.ensures, c.as_bytes.ensures.value ∙ c.yes_line.ensures) in
    on_ok_weaker c.put_after_yes.result (adds_both _ _ _ _ _ c.as_bytes.result.now says c.in_ok-put.ensures.whole) c.put_after_yes.ensures
