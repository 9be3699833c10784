use Rattle.std.proofs.Common.{◌≢◌, take}
use Rattle.std.specs.List.{AllByRecursion}
use Rattle.sqlite_value.specs.declared.value.Value.TheVariants.{Text}
use Rattle.sqlite_value.specs.Order.{column}
use Rattle.journal.proofs.new_file.has_none_named.Given as goal
use Rattle.journal.specs.Journal.{name_column}

abbrev pub invariant-loop-object : goal.invariant-loop-object
invariant-loop-object l = AllByRecursion (λ r. column r name_column ≢ Text l.name) (take l.object-index l.objects.items)
