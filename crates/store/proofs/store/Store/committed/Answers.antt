use Rattle.std.proofs.Common.{◌<◌, ◌++◌, map, length, arith}
use Rattle.std.proofs.lemmas.Bool.Decides.{nat_tests}
use Rattle.store.proofs.Beginnings.{image-in}
use Rattle.store.proofs.CommittedStates.{committed-shown}
use Rattle.store.proofs.store.Store.committed.Goals as goal

pub returns-clause-committed : goal.returns-clause-committed
returns-clause-committed g c =
    let inside = c.self.inside in
    let meaning = g.R.Recovery.meaning in
    let object = c.in_ok-object.object.now in
    let lookup = c.in_ok-object.ensures.lookup in
    let low : c.args.x < length c.deref.result.now = grind (arith, nat_tests, lookup.0) in
    committed-shown c.checked_is_covered.ensures c.committed_is_there.ensures c.committed_agrees.ensures (map meaning inside.objects.items) inside.transactions.rows (inside.past.items ++ inside.history.items)
    inside.limits inside.forgotten c.self.invariant.1.store.kept c.args.self.now c.self.view_is c.args.x c.committed.result (meaning object)
    (image-in meaning inside.objects.items c.deref.result.now c.args.x object c.deref.ensures.value low lookup.1) c.committed.ensures.exact (omega (arith, c.committed.type_inv))
