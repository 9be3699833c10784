use Rattle.std.proofs.Common.{sym, ◌∙◌}
use Rattle.carried_orders.proofs.Stepping.{next-isnt, next-none}
use Rattle.carried_orders.proofs.merging.next_carried.Goals as goal

pub loop-entry-preserved : goal.loop-entry-preserved
loop-entry-preserved g c =
    next-isnt c.args.those.now (g.R.Recovery.meaning c.args.object.now).log c.loop-entry.place c.args.from c.in-Some.entry (sym c.in-Some.ensures) c.in_default-carried_number.ensures.other c.loop-entry.invariant

pub returns-clause-none : goal.returns-clause-none
returns-clause-none g c =
    next-none c.args.those.now (g.R.Recovery.meaning c.args.object.now).log c.loop-entry.place c.args.from (sym c.entry.ensures ∙ c.in_default.is) c.loop-entry.invariant
