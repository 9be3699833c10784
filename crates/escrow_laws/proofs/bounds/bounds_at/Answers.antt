use Rattle.std.proofs.Common.{subst, sym}
use Rattle.escrow_laws.specs.Search.{IsBounded}
use Rattle.escrow_laws.proofs.Searching.{nowhere-bounded, stretch-bounded}
use Rattle.escrow_laws.proofs.bounds.bounds_at.Goals as goal

pub returns-in-None : goal.returns-in-None
returns-in-None c = subst (λ b. IsBounded c.args.table.now c.args.k b) (sym c.nowhere.ensures) (nowhere-bounded c.args.table.now c.args.k c.in-None.ensures)

pub returns-in-Some : goal.returns-in-Some
returns-in-Some c =
    subst (λ b. IsBounded c.args.table.now c.args.k b) (sym c.until.ensures)
    (stretch-bounded c.steps_within.ensures c.args.table.now c.states-states.ensures.table c.args.k c.in-Some.first.from c.in-Some.first.to c.first_stop.result c.in-Some.ensures c.first_stop.ensures c.requires.faultless)
