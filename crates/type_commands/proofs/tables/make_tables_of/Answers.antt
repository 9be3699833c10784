use Rattle.command_files.proofs.Comes.{comes}
use Rattle.type_commands.proofs.tables.make_tables_of.Goals as goal

pub returns : goal.returns
returns g c =
    comes _ _ _ _ c.answer_made.result _ _ (λ v text made. (c.in_ok-file.file, c.in_ok-file.ensures.reads, made)) (λ bad. absurd bad) c.answer_made.ensures
