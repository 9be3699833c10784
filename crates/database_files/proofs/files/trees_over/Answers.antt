use Rattle.std.proofs.Common.{◌∙◌}
use Rattle.database_files.proofs.files.trees_over.Goals as goal

pub returns-in-Ok-clause-found : goal.returns-in-Ok-clause-found
returns-in-Ok-clause-found g c clean is_open db holds =
    c.trees_of.ensures.same clean is_open ∙ (c.in-Ok.ensures.found (c.trees_of.ensures.clean clean)).holds db holds
