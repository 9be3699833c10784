-- What a store makes is made again.
use Rattle.std.proofs.Common.{◌≡◌, ℕ, zero, suc, Bool, true, false, not, List, [], ◌∷◌, ◌++◌, if◌then◌else◌, Option, Some, None, is_some, inl, inr, refl, sym, ap, subst, ◌∙◌, append-nil, add-one, arith}
use Rattle.std.proofs.lemmas.Bool.{cases_Bool}
use Rattle.object_trait.specs.declared.event.Event.{Event}
use Rattle.object_trait.specs.declared.event.EventKind.{EventKind}
use Rattle.object_trait.specs.declared.event.EventKind.TheVariants.{Abort}
use Rattle.serial_order.specs.History.{summary, is_open}
use Rattle.serial_order.specs.Machine.{IsRun}
use Rattle.serial_order.specs.Laws.{RunGoesOn}
use Rattle.serial_order.specs.After.{SummaryAfter, TransactionsInRun, OpensAfter, BeginnersAfter}
use Rattle.serial_order.specs.Replay.{after_command, appended, event_of, replay_from}
use Rattle.serial_order.specs.declared.command.Command.{Command}
use Rattle.serial_order.specs.declared.command.Command.TheVariants as command
use Rattle.serial_order.specs.declared.refusal.Refusal.{Refusal}
use Rattle.serial_order.specs.declared.refusal.Refusal.TheVariants.{NotOpen}
use Rattle.store_laws.specs.Stored.{Stored, objects, refusal_of}
use Rattle.store.specs.Ends.{closing_abort, is_other}
use Rattle.store.specs.Follows.{IsMade}
use Rattle.store.specs.OwnHistory.{AskedIsFollowed, ClosingIsOwn, IsOwnHistory, StepsAreOwn, at_beginning}
use Rattle.store.specs.Replays.{AreMade, with_events}
use Rattle.store.proofs.Closings.{closed-each, closing-ended, closing-opened, closing_below, other-is}
use Rattle.store.proofs.Replays.{made-more}

-- ---- a step

-- the event of a command that isn't refused is made
own-appended : (s : Stored) (w : ℕ) (command : Command) (r : Option Refusal) (k : Option EventKind) → refusal_of s command ≡ r → event_of (objects s) (summary s.history) command ≡ k
    → IsOwnHistory s → AreMade (at_beginning s) (if is_some r then s.history else appended s.history w k)
own-appended s w command (Some why) k is_r is_k own = own
own-appended s w command None None is_r is_k own = own
own-appended s w command None (Some kind) is_r is_k own =
    made-more (at_beginning s) s.history (record { worker = w; kind = kind }) own (record { command = command; accepted = is_r; makes = is_k })

pub steps-own : StepsAreOwn
steps-own s w command own = own-appended s w command (refusal_of s command) (event_of (objects s) (summary s.history) command) refl refl own

-- ---- many

-- of two histories that are made the chosen one is
either-made : (s : Stored) (b : Bool) (H K : List Event) → AreMade s H → AreMade s K → AreMade s (if b then H else K)
either-made s true H K first second = first
either-made s false H K first second = second

replayed-own : (s : Stored) (memory_refused : ℕ → Bool) (place : ℕ) (H : List Event) (commands : List (ℕ × Command)) → AreMade (at_beginning s) H
    → AreMade (at_beginning s) (replay_from (objects s) s.limits memory_refused place H commands)
replayed-own s memory_refused place H [] made = made
replayed-own s memory_refused place H (c ∷ commands) made =
    let next = after_command (objects s) s.limits H c.0 c.1 in
    replayed-own s memory_refused (suc place) (if memory_refused place then H else next) commands
    (either-made (at_beginning s) (memory_refused place) H next made (steps-own (record s { history = H }) c.0 c.1 made))

pub asked-followed : AskedIsFollowed
asked-followed s memory_refused commands = replayed-own s memory_refused 0 [] commands tt

-- ---- the aborts of what is open

-- the abort of an open transaction is made
pub abort-made : (s : Stored) (H : List Event) (e : Event) (t : ℕ) → e.kind ≡ Abort t → is_open (summary H) t ≡ true → IsMade (with_events (at_beginning s) H) e
abort-made s H e t is going =
    record {
      command = command.Abort t;
      accepted = ap (λ b. if not b then Some NotOpen else None) going;
      makes = ap Some (sym is);
    }

module _ (goes_on : RunGoesOn) (now : SummaryAfter) (in_run : TransactionsInRun) (opens : OpensAfter) (began : BeginnersAfter) (those : List ℕ) (s : Stored)
    (run : IsRun (objects s) s.history) (own : IsOwnHistory s) where
  -- those below n
  closed-own : (n : ℕ) → AreMade (at_beginning s) (s.history ++ closing_below those s.history n)
  closed-own zero = subst (AreMade (at_beginning s)) (sym (append-nil s.history)) own
  closed-own (suc n) =
      let K = s.history ++ closing_below those s.history n in
      let before = closed-own n in
      let below = closed-each goes_on now in_run opens began those (objects s) s.history run n in
      subst (λ k. AreMade (at_beginning s) (s.history ++ closing_below those s.history k)) (add-one n)
      (elim (cases_Bool (is_other those (summary s.history) n)) [
        | inl going ↦
            let going_on : is_open (summary K) n ≡ true = below.others n (omega arith) ∙ (other-is _ _ going).1 in
            subst (AreMade (at_beginning s)) (sym (closing-opened those s.history n going))
            (made-more (at_beginning s) K (closing_abort s.history n) before (abort-made s K (closing_abort s.history n) n refl going_on))
        | inr ended ↦ subst (AreMade (at_beginning s)) (sym (closing-ended those s.history n ended)) before
      ])

pub closing-own : RunGoesOn → SummaryAfter → TransactionsInRun → OpensAfter → BeginnersAfter → ClosingIsOwn
closing-own goes_on now in_run opens began those s run own = closed-own goes_on now in_run opens began those s run own (summary s.history).begun
