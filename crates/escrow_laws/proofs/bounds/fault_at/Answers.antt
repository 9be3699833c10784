use Rattle.escrow_laws.proofs.Searching.{illegal-faultless, ended-faultless, stop-first}
use Rattle.escrow_laws.proofs.bounds.fault_at.Goals as goal

pub returns-in_default : goal.returns-in_default
returns-in_default c = illegal-faultless c.args.table.now c.args.k c.in_default.ensures

pub returns-in-None : goal.returns-in-None
returns-in-None c = ended-faultless c.args.table.now c.args.k c.in-Some.first.from c.in-Some.first.to c.first_stop-stop.result c.in-Some.ensures c.first_stop-stop.ensures c.in-None.ensures

pub returns-in-Some-first_step : goal.returns-in-Some-first_step
returns-in-Some-first_step c =
    let again = c.in-Some-first_step.field-0 in
    stop-first c.args.table.now c.args.k c.in-Some.first.from c.in-Some.first.to c.first_stop-stop.result again.from again.to c.in-Some.ensures c.first_stop-stop.ensures c.in-Some-first_step.ensures
