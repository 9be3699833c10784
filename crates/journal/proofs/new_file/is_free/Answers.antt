use Rattle.std.proofs.Common.{◌≢◌, List, subst}
use Rattle.std.specs.List.{AllByRecursion}
use Rattle.sqlite_value.specs.declared.value.Value.TheVariants.{Text}
use Rattle.sqlite_value.specs.Order.{Row, column}
use Rattle.journal.proofs.Names.{unnamed-wholly}
use Rattle.journal.proofs.new_file.is_free.Goals as goal
use Rattle.journal.specs.Journal.{name_column}

pub returns-clause-unnamed : goal.returns-clause-unnamed
returns-clause-unnamed g c = λ free clean.
    unnamed-wholly c.args.name.now _ (subst (λ (rs : List Row). AllByRecursion (λ r. column r name_column ≢ Text c.args.name.now) rs) (c.in_ok-objects.ensures clean) (c.has_none_named.ensures free))
