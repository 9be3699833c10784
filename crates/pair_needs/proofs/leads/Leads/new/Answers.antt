use Rattle.std.proofs.Common.{arith}
use Rattle.pair_needs.proofs.Search.{searched-all}
use Rattle.pair_needs.proofs.leads.Leads.new.Goals as goal

pub returns-then-place-len-clause-lists : goal.returns-then-place-len-clause-lists
returns-then-place-len-clause-lists c =
    (searched-all c.args.table.now c.loop-place.place c.loop-place.leads (omega (arith, c.if-place-len.true, c.len.ensures, c.loop-place.leads.found.ok.0)) c.loop-place.invariant).0

pub returns-then-place-len-clause-set : goal.returns-then-place-len-clause-set
returns-then-place-len-clause-set c =
    (searched-all c.args.table.now c.loop-place.place c.loop-place.leads (omega (arith, c.if-place-len.true, c.len.ensures, c.loop-place.leads.found.ok.0)) c.loop-place.invariant).1

pub returns-clause-lists : goal.returns-clause-lists
returns-clause-lists c =
    (searched-all c.args.table.now c.loop-place.place c.loop-place.leads (omega (arith, c.loop-place-test.false, c.loop-place.leads.found.ok.0, c.loop-place.leads.found.ok.1, c.loop-place.leads.found.small)) c.loop-place.invariant).0

pub returns-clause-set : goal.returns-clause-set
returns-clause-set c =
    (searched-all c.args.table.now c.loop-place.place c.loop-place.leads (omega (arith, c.loop-place-test.false, c.loop-place.leads.found.ok.0, c.loop-place.leads.found.ok.1, c.loop-place.leads.found.small)) c.loop-place.invariant).1
