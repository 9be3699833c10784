use Rattle.std.proofs.Common.{arith}
use Rattle.serve_command.proofs.StayingOutcomes.{stays-so}
use Rattle.serve_command.proofs.serve.stay_at_least.Goals as goal

-- as many stay already
pub returns-then-least_outcomes-from-clause-written : goal.returns-then-least_outcomes-from-clause-written
returns-then-least_outcomes-from-clause-written g c =
    let known = c.least_outcomes.ensures in
    let as_many = c.if-least_outcomes-from.true in
    let asked = c.from.ensures in
    λ clean. stays-so g.S.Store c.args.store.now.journal c.args.least (omega (arith, known, as_many, asked))
