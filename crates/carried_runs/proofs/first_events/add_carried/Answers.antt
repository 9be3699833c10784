use Rattle.std.proofs.Common.{sym, ◌∙◌}
use Rattle.carried_runs.proofs.FirstEvents.{again-next, again-all}
use Rattle.carried_runs.proofs.first_events.add_carried.Goals as goal

pub loop-entry-preserved : goal.loop-entry-preserved
loop-entry-preserved g c =
    again-next c.args.x (λ _. c.args.w) c.args.those.now (g.R.Recovery.meaning c.args.object.now).log c.loop-entry.i c.in-Some.entry
    c.args.events.now.items c.loop-entry.events.items c.add_again.new.events.items (sym c.in-Some.ensures) c.loop-entry.invariant c.in_ok-add_again.ensures

pub returns : goal.returns
returns g c =
    again-all c.args.x (λ _. c.args.w) c.args.those.now (g.R.Recovery.meaning c.args.object.now).log c.loop-entry.i c.args.events.now.items c.loop-entry.events.items
    (sym c.entry.ensures ∙ c.in_default.is) c.loop-entry.invariant
