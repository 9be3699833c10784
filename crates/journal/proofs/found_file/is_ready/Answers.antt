use Rattle.std.proofs.Common.{subst}
use Rattle.journal.specs.Journal.{IsNamedOnce}
use Rattle.journal.proofs.Names.{named-wholly}
use Rattle.journal.proofs.found_file.is_ready.Goals as goal

pub returns-clause-named : goal.returns-clause-named
returns-clause-named g c = λ ready clean. named-wholly _ (subst IsNamedOnce (c.in_ok-objects.ensures clean) (c.are_named_once.ensures ready))
