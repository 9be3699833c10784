use Rattle.std.proofs.Common.{refl}
use Rattle.database_files.proofs.Outcomes.{on_err, on_ok}
use Rattle.database_files.proofs.file_databases.FileDatabasesDatabases.publish.Goals as goal

pub returns-clause-clean : goal.returns-clause-clean
returns-clause-clean c = on_ok c.publish_moved-published.result (λ none. absurd none)

pub returns-clause-held : goal.returns-clause-held
returns-clause-held c = on_ok c.publish_moved-published.result (λ is. tt)

pub returns-clause-kept : goal.returns-clause-kept
returns-clause-kept c = on_err c.publish_moved-published.result (λ other. refl)
