use Rattle.std.proofs.Common.{refl}
use Rattle.database_files.proofs.Outcomes.{if_ok, on_err}
use Rattle.database_files.proofs.file_databases.FileDatabasesDatabases.open.Goals as goal

pub returns-clause-clean : goal.returns-clause-clean
returns-clause-clean c = if_ok c.open_files.result (λ trees none. absurd none)

pub returns-clause-left : goal.returns-clause-left
returns-clause-left c = if_ok c.open_files.result (λ trees clean. tt)

pub returns-clause-kept : goal.returns-clause-kept
returns-clause-kept c = on_err c.open_files.result (λ other. refl)
