use Rattle.std.proofs.Common.{◌∙◌, arith}
use Rattle.history_audit.proofs.DatesKept.{kept-first}
use Rattle.history_audit.proofs.dates.dates_of.Goals as goal

pub events-preserved : goal.events-preserved
events-preserved c =
    let inside = c.events.invariant.inside in
    record { inside = omega (arith, inside); long = c.take.ensures.long ∙ c.events.invariant.long; taken = c.take.ensures.taken }

pub returns-clause-dates : goal.returns-clause-dates
returns-clause-dates c = λ u low none.
    let long = c.events.invariant.long in
    kept-first c.args.events.now c.events.at c.events.last (omega (arith, c.events-test.false)) c.events.invariant.taken u (omega (arith, low, long)) none
