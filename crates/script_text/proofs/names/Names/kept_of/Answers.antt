use Rattle.std.proofs.Common.{◌≡◌, ap, ◌∙◌, Some}
use Rattle.std.specs.Prelude.{slice_get}
use Rattle.script_text.proofs.CommandsKept.{keeps_call}
use Rattle.script_text.proofs.names.Names.kept_of.Goals as goal

pub returns-in-Some : goal.returns-in-Some
returns-in-Some c =
    let there : slice_get c.args.self.now c.in-Some.position ≡ Some c.in-Call.call = c.in-Some.ensures.there ∙ ap Some c.as_bytes.ensures.exact in
    rw c.in-Call.is (keeps_call c.args.self.now c.in-Call.t c.in-Call.x c.in-Some.position c.in-Call.call there)
