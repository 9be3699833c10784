use Rattle.std.proofs.Common.{Ok, refl}
use Rattle.command_files.proofs.Comes.{comes}
use Rattle.type_commands.specs.Made.{MakesFor}
use Rattle.type_commands.specs.Request.{texts, wanted_of}
use Rattle.type_commands.proofs.Verdicts.{bad_parameter, family_says}
use Rattle.type_commands.proofs.make.make_family.Goals as goal

pub returns-in-Ok : goal.returns-in-Ok
returns-in-Ok g c =
    let wanted = wanted_of c.args.family.now c.args.size.now (texts c.args.items.now) in
    let makes : MakesFor wanted (Ok c.in-Ok.made) = rw c.in-Ok.made-is at c.in-Ok.ensures in
    comes _ _ _ _ c.answer_declared.result _ _ (family_says wanted c.in-Ok.made makes) (λ bad. absurd bad) c.answer_declared.ensures

pub returns-in-Err-BadParameter : goal.returns-in-Err-BadParameter
returns-in-Err-BadParameter g c = (bad_parameter (wanted_of c.args.family.now c.args.size.now (texts c.args.items.now)) (rw c.in-Err-BadParameter.field-0-is at c.in-Err-BadParameter.ensures), refl)
