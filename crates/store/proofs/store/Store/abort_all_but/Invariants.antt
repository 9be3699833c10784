use Rattle.std.proofs.Common.{◌≡◌}
use Rattle.store.proofs.Closings.{closed_below}
use Rattle.store.proofs.store.Store.abort_all_but.Given as goal

-- each below t was met
abbrev pub invariant-loop-t : goal.invariant-loop-t
invariant-loop-t g l = l.self ≡ closed_below l.fn.those l.fn.self l.t
