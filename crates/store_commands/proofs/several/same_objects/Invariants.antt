-- Each of the first ones begins with the objects of the one before it, and the last of them is the one before the next.
use Rattle.std.proofs.Common.{◌≡◌, take}
use Rattle.store_commands.specs.Audited.{HaveObjects}
use Rattle.store_commands.proofs.Growing.{last_of}
use Rattle.store_commands.proofs.several.same_objects.Given as goal

abbrev pub invariant-loop-n : goal.invariant-loop-n
invariant-loop-n l = record {
  same : HaveObjects l.first (take l.n l.later);
  before : l.before ≡ last_of l.first (take l.n l.later);
}
