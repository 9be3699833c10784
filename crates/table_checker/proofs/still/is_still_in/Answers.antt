use Rattle.std.proofs.Common.{◌≡◌, ◌<◌, false, sym, ◌∙◌, arith}
use Rattle.table_checker.specs.Still.{is_still_at}
use Rattle.table_checker.proofs.StillScan.{below-fails}
use Rattle.table_checker.proofs.still.is_still_in.Goals as goal

pub returns-then-not-is_still_at : goal.returns-then-not-is_still_at
returns-then-not-is_still_at c =
    sym (below-fails c.args.file.now.table.states (is_still_at c.args.file.now c.args.k) c.loop-s.s (omega (arith, c.states-s-end.ensures.exact, c.loop-s-test.true)) (sym c.is_still_at.ensures ∙ c.if-not-is_still_at.true))
