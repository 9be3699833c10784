use Rattle.std.proofs.Common.{true}
use Rattle.type_table.proofs.Padding.{set-padded}
use Rattle.type_table.proofs.state_set.StateSet.add.Goals as goal

pub returns : goal.returns
returns c = set-padded c.self.inside.members c.args.self.now c.self.inside.states c.args.s true c.self.view_is c.self.invariant c.requires
