use Rattle.std.proofs.Common.{◌≡◌, take}
use Rattle.escrow_manager.specs.Totals.{totals_of}
use Rattle.escrow_manager.proofs.totals.Totals.of.Given as goal

-- they are those of the marks so far
abbrev pub invariant-loop-open : goal.invariant-loop-open
invariant-loop-open l = l.totals ≡ totals_of l.top (take l.open-index l.marks.items)
