use Rattle.std.proofs.Common.{ap}
use Rattle.open_transactions.proofs.Passed.{passed-known, passed-shown}
use Rattle.open_transactions.proofs.open_transactions.OpenTransactions.pass.Goals as goal

pub invariant_of-self : goal.invariant_of-self
invariant_of-self c =
    rw c.push_reserved.ensures.slots
    (passed-known c.self.inside.slots.items c.self.inside.index.slots c.self.invariant c.args.self.now.rows (ap (λ a. a.rows) c.self.view_is) c.requires.fits)

pub returns-clause-rows : goal.returns-clause-rows
returns-clause-rows c =
    rw c.push_reserved.ensures.slots
    (passed-shown c.self.inside.slots.items c.self.inside.index.slots c.self.invariant c.args.self.now.rows (ap (λ a. a.rows) c.self.view_is))
