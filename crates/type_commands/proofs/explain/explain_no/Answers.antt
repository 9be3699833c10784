use Rattle.command_files.proofs.Comes.{comes}
use Rattle.type_commands.specs.Explain.{pair_as}
use Rattle.type_commands.proofs.Explaining.{no_explains}
use Rattle.type_commands.proofs.explain.explain_no.Goals as goal

pub returns-in-Ok : goal.returns-in-Ok
returns-in-Ok g c = λ declaration same.
    let put = rw c.deref.ensures.value at c.put_answer.ensures.comes in
    comes _ _ _ _ c.put_answer.result _ _
    (no_explains c.args.kind c.args.file.now c.args.refusal (pair_as c.args.asked) c.in-Ok.text.items c.requires.first c.in-Ok.ensures declaration same) (λ bad. absurd bad) put
