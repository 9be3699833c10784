use Rattle.std.proofs.Common.{ℕ, Vec, Global, length, ◌∙◌}
use Rattle.table_families.proofs.Lexicographic.{within-at}
use Rattle.table_families.proofs.QueueStates.{list-at}
use Rattle.table_families.proofs.semiqueue.Semiqueue.counts_at.Goals as goal

pub returns-clause-whole : goal.returns-clause-whole
returns-clause-whole c =
    let known = c.args.self.now in
    let same = c.deref.ensures.value ∙ list-at (λ (counts : Vec ℕ Global). counts.items) known.states.items _ c.args.s c.index.result.now known.exact c.requires c.index.ensures in
    (within-at (length known.elements.now) known.capacity c.args.s c.deref.result.now c.requires same).0

pub returns-clause-fits : goal.returns-clause-fits
returns-clause-fits c =
    let known = c.args.self.now in
    let same = c.deref.ensures.value ∙ list-at (λ (counts : Vec ℕ Global). counts.items) known.states.items _ c.args.s c.index.result.now known.exact c.requires c.index.ensures in
    (within-at (length known.elements.now) known.capacity c.args.s c.deref.result.now c.requires same).1
