use Rattle.command_files.proofs.Comes.{comes}
use Rattle.type_commands.proofs.check.check_file.Goals as goal

pub returns-clause-comes : goal.returns-clause-comes
returns-clause-comes g c =
    let read = c.in_ok-declared.ensures in
    comes _ _ _ _ c.check_read.result _ _ (λ v text says. (c.in_ok-declared.declared, read.reads, read.fits, says)) (λ bad. absurd bad) c.check_read.ensures
