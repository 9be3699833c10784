-- A turn of a worker that isn't at its end.
use Rattle.std.proofs.Common.{◌≡◌, ℕ, ◌<◌, ◌==◌, Bool, length, set, Some, slice_get, refl, sym, ap, ◌∙◌, subst, inl, arith}
use Rattle.std.proofs.lemmas.Bool.{eqb-true}
use Rattle.std.proofs.lemmas.Option.{same_Some}
use Rattle.store_laws.specs.Stored.{Stored, objects}
use Rattle.worker_turns.specs.Progress.{Progress, IsTold, IsAtEnd, open_in_phase}
use Rattle.worker_turns.specs.Turns.{Turns, HasOpen, TurnsAreCounted, turns_left}
use Rattle.workers.specs.SharedCalls.{IsGoing, TakesTurnIfAny}
use Rattle.workers.specs.SharedState.{Start, SharedState, IsKeptSince, TakesTurn}
use Rattle.workers.proofs.Kept.{has-open}
use Rattle.workers.proofs.Lists.{found-set}

-- what a worker noted, by the types of the store as it is
told-now : (o : Start) (s : SharedState) → IsKeptSince o s → (w : ℕ) (p : Progress) → slice_get s.workers w ≡ Some p → IsTold (objects s.store) p
told-now o s kept w p there =
    let same : objects s.store ≡ objects o.store = ap objects kept.store in
    subst (λ types. IsTold types p) (sym same) (kept.workers w p there).told

-- each turn takes at least one from those that it has left
turn-counts : TurnsAreCounted → (o : Start) (s : SharedState) → IsKeptSince o s → (w : ℕ) (new : SharedState) (turn : TakesTurn s w new) → turns_left turn.q < turns_left turn.p
turn-counts counted o s kept w new turn = counted s.store w turn.p new.store turn.q (told-now o s kept w turn.p turn.there) turn.going turn.turn

module _ (o : Start) (s : SharedState) (kept : IsKeptSince o s) (w : ℕ) (its : IsGoing s w) (p : Progress) (read : p ≡ its.p) where
  -- it has a job without an outcome
  pub has-job : length p.outcomes < length p.jobs
  has-job =
      let within = (told-now o s kept w its.p its.there).within in
      let going = its.going in
      rw read (omega (arith, within, going))

  -- its transaction is open
  pub own-open : HasOpen s.store.history (open_in_phase p.phase)
  own-open = rw read (has-open s.store.history (open_in_phase its.p.phase) (λ t now. ((kept.workers w its.p its.there).owns t now).still_open))

  module _ (store : Stored) (q : Progress) (turn : Turns s.store w p store q) where
    pub takes : TakesTurn s w (record { store = store; workers = set s.workers w q; let_in = s.let_in })
    takes = record {
      let_in = its.let_in;
      p = its.p;
      there = its.there;
      going = its.going;
      q = q;
      turn = subst (λ r. Turns s.store w r store q) read turn;
      is = refl;
    }

    -- and what is answered says whether it is at its end
    pub steps : TurnsAreCounted → (ended : Bool) → ended ≡ (length q.outcomes == length q.jobs) → TakesTurnIfAny s w ended (record { store = store; workers = set s.workers w q; let_in = s.let_in })
    steps counted ended says =
        let new : SharedState = record { store = store; workers = set s.workers w q; let_in = s.let_in } in
        record {
          turn = inl takes;
          fewer = turn-counts counted o s kept w new;
          at_end = λ yes r early there.
              let is : q ≡ r = same_Some q r (sym (found-set s.workers w its.p q its.there) ∙ there) in
              subst IsAtEnd is (eqb-true (length q.outcomes) (length q.jobs) (sym says ∙ yes));
          going = λ no. takes;
        }
