use Rattle.std.proofs.Common.{◌≡◌}
use Rattle.store.proofs.CarriedAll.{open_below}
use Rattle.store.proofs.store.Store.open_ones.Given as goal

-- each below t was met
abbrev pub invariant-loop-t : goal.invariant-loop-t
invariant-loop-t g l = l.those.items ≡ open_below l.self.history l.t
