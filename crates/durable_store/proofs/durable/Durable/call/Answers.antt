use Rattle.std.proofs.Common.{◌∙◌, sym, subst}
use Rattle.store.specs.Calls.{NotesAnswer}
use Rattle.durable_store.specs.Durable.{is_prepared}
use Rattle.durable_store.specs.Held.{Unless}
use Rattle.durable_store.proofs.Gates.{unless-denied}
use Rattle.durable_store.proofs.durable.Durable.call.Goals as goal

pub returns-clause-answer : goal.returns-clause-answer
returns-clause-answer g c = λ k named.
    let old = c.args.self.now in
    let new = c.call_now.new.self.store in
    subst (λ r. Unless (is_prepared old c.args.t) old.store (λ r. NotesAnswer old.store 0 c.args.t c.args.x k r new) r new) (sym c.unless_refused.ensures)
    (unless-denied (is_prepared old c.args.t) old.store new (λ r. NotesAnswer old.store 0 c.args.t c.args.x k r new) c.in_ok-came.came (sym c.is_prepared.ensures ∙ c.if-is_prepared.false)
    (c.in_ok-came.ensures.answer k named))
