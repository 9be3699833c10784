use Rattle.table_checker.specs.declared.scan.Triple.{Triple}
use Rattle.table_checker.proofs.Failures.{none-iff}
use Rattle.table_checker.proofs.scan.passes_everywhere.Goals as goal

pub returns : goal.returns
returns c =
    none-iff c.args.condition c.args.file.now c.args.conflicts.now (λ (f : Triple). f.p) (λ f. f.q) (λ f. f.s) c.first_failure.result c.is_none.result c.is_none.ensures c.first_failure.ensures
