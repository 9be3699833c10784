use Rattle.std.proofs.Common.{arith}
use Rattle.pair_needs.proofs.Search.{searched-next}
use Rattle.pair_needs.proofs.leads.Leads.go_on.Goals as goal

pub returns : goal.returns
returns c =
    searched-next c.steps_within.ensures c.args.table.now c.args.place c.loop-k.k c.loop-k.self (omega (arith, c.op_count-k-end.ensures.exact, c.loop-k-test.false)) c.loop-k.invariant.searched
