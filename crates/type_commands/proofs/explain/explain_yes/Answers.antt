use Rattle.command_files.proofs.Comes.{comes}
use Rattle.type_commands.specs.Explain.{pair_as}
use Rattle.type_commands.proofs.Explaining.{yes_explains}
use Rattle.type_commands.proofs.explain.explain_yes.Goals as goal

pub returns-in-Ok : goal.returns-in-Ok
returns-in-Ok g c =
    let put = rw c.deref.ensures.value at c.put_answer.ensures.comes in
    comes _ _ _ _ c.put_answer.result _ _
    (yes_explains c.args.checked.now c.args.declared.now (pair_as c.args.asked) c.in-Ok.text.items c.requires.same c.requires.covers c.in-Ok.ensures) (λ bad. absurd bad) put
