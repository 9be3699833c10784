-- By what is known of the worker under the lock.
use Rattle.std.proofs.Common.{refl, sym, subst}
use Rattle.workers.specs.SharedState.{SharedState}
use Rattle.workers.specs.SharedCalls.{IsGoing}
use Rattle.workers.proofs.Lists.{read-found}
use Rattle.workers.proofs.WorkerTurns.{has-job, own-open, takes, steps}
use Rattle.workers.proofs.shared.Shared.step.Goals as goal

pub turn-requires-clause-going : goal.turn-requires-clause-going
turn-requires-clause-going g c κs within =
    let s : SharedState = record { store = c.self.inside.store; workers = c.self.inside.workers.items; let_in = c.self.inside.let_in } in
    let its : IsGoing s c.args.w = subst (λ z. IsGoing z c.args.w) (sym c.self.view_is) (c.if-is_at_end.ensures.going refl) in
    has-job g.S.HasStart.start s c.self.invariant c.args.w its c.index_mut-worker.result.now
    (read-found s.workers c.args.w its.p c.index_mut-worker.result.now its.there (rw c.from.ensures at c.index_mut-worker.ensures.value))

pub turn-requires-clause-still_open : goal.turn-requires-clause-still_open
turn-requires-clause-still_open g c κs within =
    let s : SharedState = record { store = c.self.inside.store; workers = c.self.inside.workers.items; let_in = c.self.inside.let_in } in
    let its : IsGoing s c.args.w = subst (λ z. IsGoing z c.args.w) (sym c.self.view_is) (c.if-is_at_end.ensures.going refl) in
    own-open g.S.HasStart.start s c.self.invariant c.args.w its c.index_mut-worker.result.now
    (read-found s.workers c.args.w its.p c.index_mut-worker.result.now its.there (rw c.from.ensures at c.index_mut-worker.ensures.value))

pub invariant_of-self : goal.invariant_of-self
invariant_of-self g c =
    let s : SharedState = record { store = c.self.inside.store; workers = c.self.inside.workers.items; let_in = c.self.inside.let_in } in
    let its : IsGoing s c.args.w = subst (λ z. IsGoing z c.args.w) (sym c.self.view_is) (c.if-is_at_end.ensures.going refl) in
    let read = read-found s.workers c.args.w its.p c.index_mut-worker.result.now its.there (rw c.from.ensures at c.index_mut-worker.ensures.value) in
    rw c.from.ensures
    (c.turns_are_kept.ensures g.S.HasStart.start s c.args.w _ c.history_is_run.ensures c.history_is_run-2.ensures c.self.invariant
    (takes g.S.HasStart.start s c.self.invariant c.args.w its c.index_mut-worker.result.now read c.turn.new.store c.turn.new.self c.turn.ensures))

pub returns : goal.returns
returns g c =
    let s : SharedState = record { store = c.self.inside.store; workers = c.self.inside.workers.items; let_in = c.self.inside.let_in } in
    let its : IsGoing s c.args.w = subst (λ z. IsGoing z c.args.w) (sym c.self.view_is) (c.if-is_at_end.ensures.going refl) in
    let read = read-found s.workers c.args.w its.p c.index_mut-worker.result.now its.there (rw c.from.ensures at c.index_mut-worker.ensures.value) in
    rw (← c.self.view_is, c.from.ensures)
    (steps g.S.HasStart.start s c.self.invariant c.args.w its c.index_mut-worker.result.now read c.turn.new.store c.turn.new.self c.turn.ensures
    c.turns_are_counted.ensures c.is_at_end-ended.result c.is_at_end-ended.ensures)
