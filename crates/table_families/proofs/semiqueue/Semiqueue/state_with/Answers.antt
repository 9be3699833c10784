use Rattle.std.proofs.Common.{ℕ, Vec, Global, set, None, Some, ◌∙◌}
use Rattle.table_families.proofs.QueueStates.{state-found}
use Rattle.table_families.proofs.semiqueue.Semiqueue.state_with.Goals as goal

pub returns-in_err-place : goal.returns-in_err-place
returns-in_err-place c =
    let known = c.args.self.now in
    c.from_residual.ensures ∙ state-found (λ (counts : Vec ℕ Global). counts.items) known.states.items c.deref.result.now _ (set c.args.counts.now c.args.i c.args.count) None known.exact c.deref.ensures.value c.in_err-place.ensures

pub returns : goal.returns
returns c =
    let known = c.args.self.now in
    state-found (λ (counts : Vec ℕ Global). counts.items) known.states.items c.deref.result.now _ (set c.args.counts.now c.args.i c.args.count) (Some c.in_ok-place.place) known.exact c.deref.ensures.value c.in_ok-place.ensures
