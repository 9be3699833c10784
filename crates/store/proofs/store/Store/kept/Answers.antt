use Rattle.std.proofs.Common.{◌<◌, ◌++◌, map, length, nat_lt, is_some, ap, ◌∙◌, arith}
use Rattle.std.proofs.lemmas.Bool.Decides.{nat_tests}
use Rattle.store.proofs.Beginnings.{image-in}
use Rattle.store.proofs.KeptStates.{kept-shown}
use Rattle.store.proofs.OpCalls.{as-many-seen}
use Rattle.store.proofs.store.Store.kept.Goals as goal

pub returns-in_err-object-clause-there : goal.returns-in_err-object-clause-there
returns-in_err-object-clause-there g c =
    let inside = c.self.inside in
    ap is_some c.from_residual.ensures ∙ c.in_err-object.ensures.lookup.0
    ∙ ap (nat_lt c.args.x) (as-many-seen g.R.Recovery.meaning inside.objects.items c.deref.result.now inside.transactions.rows (inside.past.items ++ inside.history.items) inside.limits inside.forgotten c.args.self.now c.args.x c.self.view_is c.deref.ensures.value)

pub returns-clause-there : goal.returns-clause-there
returns-clause-there g c =
    let inside = c.self.inside in
    c.in_ok-object.ensures.lookup.0
    ∙ ap (nat_lt c.args.x) (as-many-seen g.R.Recovery.meaning inside.objects.items c.deref.result.now inside.transactions.rows (inside.past.items ++ inside.history.items) inside.limits inside.forgotten c.args.self.now c.args.x c.self.view_is c.deref.ensures.value)

pub returns-clause-kept : goal.returns-clause-kept
returns-clause-kept g c =
    let inside = c.self.inside in
    let meaning = g.R.Recovery.meaning in
    let object = c.in_ok-object.object.now in
    let lookup = c.in_ok-object.ensures.lookup in
    let low : c.args.x < length c.deref.result.now = grind (arith, nat_tests, lookup.0) in
    kept-shown c.checked_headline.ensures (map meaning inside.objects.items) inside.transactions.rows (inside.past.items ++ inside.history.items) inside.limits inside.forgotten
    c.self.invariant.1.store.kept c.args.self.now c.self.view_is c.runs_along.ensures c.args.x c.state.result (meaning object)
    (image-in meaning inside.objects.items c.deref.result.now c.args.x object c.deref.ensures.value low lookup.1) c.state.ensures.exact (omega (arith, c.state.type_inv))
