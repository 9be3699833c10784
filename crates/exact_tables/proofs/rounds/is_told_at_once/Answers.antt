use Rattle.std.proofs.Common.{arith}
use Rattle.std.proofs.lemmas.Bool.{false≢true}
use Rattle.exact_tables.proofs.Beginnings.{told-nowhere}
use Rattle.exact_tables.proofs.rounds.is_told_at_once.Goals as goal

pub returns : goal.returns
returns c = (
  λ h. absurd (false≢true h),
  λ told. absurd (told-nowhere c.args.table.now c.args.s c.args.t c.loop-k.k (omega (arith, c.op_count-k-end.ensures.exact, c.loop-k-test.false)) c.loop-k.invariant told),
)
