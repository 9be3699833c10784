use Rattle.std.proofs.Common.{◌≡◌, refl}
use Rattle.command_words.proofs.FormLemmas.{by_kinds}
use Rattle.command_words.proofs.program.forms.Goals as goal

pub returns : goal.returns
returns c =
    let are : c.as_slice.result.now ≡ _ = c.as_slice.ensures in rw are (by_kinds _ _ refl refl)
