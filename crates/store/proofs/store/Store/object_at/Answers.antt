use Rattle.std.proofs.Common.{◌<◌, ◌++◌, map, length, arith}
use Rattle.std.proofs.lemmas.Bool.Decides.{nat_tests}
use Rattle.store.proofs.Beginnings.{image-in}
use Rattle.store.proofs.OpCalls.{object-missed}
use Rattle.store.proofs.CommittedStates.{object-known}
use Rattle.store.proofs.store.Store.object_at.Goals as goal

pub returns-in_default : goal.returns-in_default
returns-in_default g c =
    let inside = c.self.inside in
    object-missed g.R.Recovery.meaning inside.objects.items c.deref.result.now inside.transactions.rows (inside.past.items ++ inside.history.items) inside.limits inside.forgotten c.args.self.now c.args.x
    c.self.view_is c.deref.ensures.value c.in_default.ensures.lookup.0

pub returns : goal.returns
returns g c =
    let inside = c.self.inside in
    let meaning = g.R.Recovery.meaning in
    let object = c.in-Some.object.now in
    let lookup = c.in-Some.ensures.lookup in
    let low : c.args.x < length c.deref.result.now = grind (arith, nat_tests, lookup.0) in
    object-known c.checked_is_covered.ensures c.committed_is_there.ensures c.committed_agrees.ensures (map meaning inside.objects.items) inside.transactions.rows (inside.past.items ++ inside.history.items)
    inside.limits inside.forgotten c.self.invariant.1.store.kept c.args.self.now c.self.view_is c.args.x (meaning object)
    (image-in meaning inside.objects.items c.deref.result.now c.args.x object c.deref.ensures.value low lookup.1)
