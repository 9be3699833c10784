use Rattle.std.proofs.Common.{take}
use Rattle.journal.specs.Journal.{IsNamedOnce}
use Rattle.journal.proofs.found_file.are_named_once.Given as goal

abbrev pub invariant-loop-object : goal.invariant-loop-object
invariant-loop-object l = IsNamedOnce (take l.object-index l.objects.items)
