use Rattle.std.proofs.Common.{◌++◌, map}
use Rattle.store.proofs.CommittedStates.{all-committed-shown}
use Rattle.store.proofs.store.Store.snapshot.Goals as goal

pub returns-clause-states : goal.returns-clause-states
returns-clause-states g c =
    let inside = c.self.inside in
    let meaning = g.R.Recovery.meaning in
    all-committed-shown c.checked_is_covered.ensures c.committed_is_there.ensures c.committed_agrees.ensures (map meaning inside.objects.items) inside.transactions.rows (inside.past.items ++ inside.history.items)
    inside.limits inside.forgotten c.self.invariant.1.store.kept c.args.self.now c.self.view_is c.in_ok-states.states.items
    (rw c.deref.ensures.value at c.in_ok-states.ensures)
