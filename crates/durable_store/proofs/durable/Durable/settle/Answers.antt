use Rattle.std.proofs.Common.{rules}
use Rattle.durable_store.proofs.CatchUp.{settled}
use Rattle.durable_store.proofs.durable.Durable.settle.Goals as goal

pub returns-clause-sound : goal.returns-clause-sound
returns-clause-sound g c =
    settled g.S.Store c.args.self.now c.forget.new.self c.commit.new.self _ c.requires c.forget.ensures c.in_ok-commit.ensures.kept c.in_ok-commit.ensures.written
    (λ clean. c.is_settled.ensures (c.in_ok-commit.ensures.is_open clean)) c.commit.ensures.clean

-- Each of these is found with no answer too. With one, a wrong body of the function is refused sooner.

pub returns-clause-durable : goal.returns-clause-durable
returns-clause-durable g c = search rules

pub returns-clause-history : goal.returns-clause-history
returns-clause-history g c = search rules

pub returns-clause-is_open : goal.returns-clause-is_open
returns-clause-is_open g c = search rules

pub returns-clause-shows : goal.returns-clause-shows
returns-clause-shows g c = search rules
