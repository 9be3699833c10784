use Rattle.std.proofs.Common.{false, refl}
use Rattle.type_table.proofs.Padding.{blank-padded, blank-taken}
use Rattle.type_table.proofs.state_set.StateSet.empty.Goals as goal

pub invariant_of-result : goal.invariant_of-result
invariant_of-result c = blank-padded 1024 c.args.states false _ refl c.requires

pub returns : goal.returns
returns c = blank-taken 1024 c.args.states false _ refl c.requires
