-- What a store does again of what it carries is traced.
use Rattle.std.proofs.Common.{◌≡◌, ◌+◌, ◌≤◌, true, List, [], ◌∷◌, ◌++◌, length, Some, refl, sym, ap, subst, ◌∙◌, append_assoc, length-append, arith}
use Rattle.std.specs.List.{AllByRecursion}
use Rattle.std.proofs.lemmas.Bool.{false≢true}
use Rattle.object_trait.specs.declared.event.Event.{Event}
use Rattle.object_trait.specs.declared.event.EventKind.{EventKind}
use Rattle.object_trait.specs.declared.event.EventKind.TheVariants as kind
use Rattle.serial_order.specs.History.{summary}
use Rattle.serial_order.specs.Machine.{IsRun}
use Rattle.serial_order.specs.Replay.{open_count}
use Rattle.serial_order.specs.declared.command.Command.TheVariants as command
use Rattle.committed_states.proofs.Fronts.{runs-front, runs-rest}
use Rattle.carried_runs.specs.Redo.{begins_or_works}
use Rattle.store_laws.specs.Stored.{Stored, objects}
use Rattle.store_laws.specs.Events.{RoomAfter}
use Rattle.store.specs.OwnHistory.{at_beginning}
use Rattle.store.specs.Retraces.{AreRetraced, IsRetraced, IsTracedHistory, MayRetrace}
use Rattle.store.proofs.CarriedEpochs.{MayDoAgain}
use Rattle.store.proofs.DoneAgain.{MayBeRedone, begin-again, begin-number, operation-room, opens-more, redo-follows, with_history}

-- ---- an event

pub redo-traced : (room_after : RoomAfter) (s : Stored) (e : Event) → MayBeRedone s e → IsRetraced s e
redo-traced room_after s e may = by e.kind refl may.works
  where
    by : (k : EventKind) → e.kind ≡ k → begins_or_works k ≡ true → MayRetrace s e k
    by (kind.Begin t) is works = record {
      command = command.Begin;
      accepted = begin-again room_after s e may t is;
      makes = ap Some (sym (is ∙ ap kind.Begin (begin-number room_after s e may t is)));
    }
    by (kind.Op k t x) is works = (redo-follows room_after s e may, operation-room room_after s e may k t x is)
    by (kind.Busy c t x u) is works = absurd (false≢true works)
    by (kind.None t x c) is works = absurd (false≢true works)
    by (kind.Commit t) is works = absurd (false≢true works)
    by (kind.Abort t) is works = absurd (false≢true works)
    by (kind.Rollback t n) is works = absurd (false≢true works)

-- ---- all of them

module _ (room_after : RoomAfter) (s : Stored) where
  -- those after A
  rest-traced : (A B : List Event) → IsRun (objects s) (A ++ B) → AllByRecursion (λ e. begins_or_works e.kind ≡ true) B
      → length (A ++ B) + open_count (summary (A ++ B)) ≤ s.limits.events → open_count (summary (A ++ B)) ≤ s.limits.«open» → AreRetraced (with_history s A) B
  rest-traced A [] run works room few = tt
  rest-traced A (e ∷ B) run works room few =
      let split : A ++ e ∷ B ≡ (A ++ e ∷ []) ++ B = sym (append_assoc A (e ∷ []) B) in
      let parts : IsRun (objects s) ((A ++ e ∷ []) ++ B) = subst (IsRun (objects s)) split run in
      let next = runs-front (objects s) [] (A ++ e ∷ []) B parts in
      let step = room_after (objects s) A e (runs-front (objects s) [] A (e ∷ []) next) (runs-rest (objects s) [] A (e ∷ []) next).0 in
      let more = opens-more room_after (objects s) (A ++ e ∷ []) B parts works.1 in
      let opened = ap (λ K. open_count (summary K)) split in
      let count = ap length split in (
        redo-traced room_after (with_history s A) e (record {
          run = next;
          works = works.0;
          room = omega (arith, step, more, opened, count, room, length-append (A ++ e ∷ []) B);
          few = omega (arith, more, opened, few);
        }),
        rest-traced (A ++ e ∷ []) B parts works.1 (omega (arith, opened, count, room)) (omega (arith, opened, few)),
      )

pub redone-traced : RoomAfter → (s done : Stored) (events : List Event) → MayDoAgain s events → done ≡ record s { history = events } → IsTracedHistory done
redone-traced room_after s done events may is =
    subst IsTracedHistory (sym is) (rest-traced room_after (at_beginning s) [] events may.run may.works may.room may.few)
