use Rattle.std.proofs.Common.{◌++◌, map, sym, ap, ◌∙◌}
use Rattle.std.proofs.lemmas.Bool.{ltb-true}
use Rattle.std.proofs.lemmas.Option.{none-some}
use Rattle.serial_order.specs.Replay.{call_at}
use Rattle.object_calls.specs.Answers.{busy_answer}
use Rattle.store.proofs.Beginnings.{image-in}
use Rattle.store.proofs.OpCalls.{object-missed}
use Rattle.store.proofs.Unreplied.{found-shown}
use Rattle.store.proofs.store.Store.call_unreplied.Goals as goal

pub returns-in_err-object-clause-found : goal.returns-in_err-object-clause-found
returns-in_err-object-clause-found g c = λ going d placed answered.
    let inside = c.self.inside in
    let nowhere =
    object-missed g.R.Recovery.meaning inside.objects.items c.deref.result.now inside.transactions.rows (inside.past.items ++ inside.history.items) inside.limits inside.forgotten c.args.self.now c.args.x c.self.view_is c.deref.ensures.value
    c.in_err-object.ensures.lookup.0 in
    absurd (none-some d (sym (ap (λ o. call_at o answered.0) nowhere) ∙ answered.1))

pub returns-clause-place : goal.returns-clause-place
returns-clause-place g c = c.call_unreplied.ensures.place

pub returns-clause-found : goal.returns-clause-found
returns-clause-found g c =
    let inside = c.self.inside in
    let meaning = g.R.Recovery.meaning in
    let lookup = c.in_ok-object.ensures.lookup in
    let m = meaning c.in_ok-object.object.now in
    let there = image-in meaning inside.objects.items c.deref.result.now c.args.x c.in_ok-object.object.now c.deref.ensures.value (ltb-true _ _ (sym lookup.0)) lookup.1 in
    found-shown c.answers_as_defined.ensures (map meaning inside.objects.items) inside.transactions.rows (inside.past.items ++ inside.history.items) inside.limits inside.forgotten c.args.self.now
    c.args.t c.args.x c.args.place m (busy_answer c.args.holder) c.call_unreplied.result c.self.view_is c.self.invariant.1.store.kept there c.call_unreplied.ensures.found
