-- What a store makes may be done again, also behind operations that were carried.
use Rattle.std.proofs.Common.{◌≡◌, ℕ, zero, suc, Bool, true, false, not, List, [], ◌∷◌, ◌++◌, if◌then◌else◌, Option, Some, None, is_some, inl, inr, refl, sym, ap, subst, ◌∙◌, append-nil, append_assoc, add-one, arith}
use Rattle.std.proofs.lemmas.Bool.{cases_Bool}
use Rattle.std.proofs.lemmas.Option.{none-some, same_Some}
use Rattle.std.specs.Prelude.{slice_get}
use Rattle.object_trait.specs.declared.event.Event.{Event}
use Rattle.object_trait.specs.declared.event.EventKind.{EventKind}
use Rattle.object_trait.specs.declared.event.EventKind.TheVariants as kind
use Rattle.serial_order.specs.History.{summary, is_open}
use Rattle.serial_order.specs.Machine.{May, MayFollow, RunsOn}
use Rattle.serial_order.specs.Laws.{CommandAppends, RunGoesOn}
use Rattle.serial_order.specs.After.{SummaryAfter, TransactionsInRun, OpensAfter, BeginnersAfter}
use Rattle.serial_order.specs.Replay.{appended, call_at, event_of, is_history_full}
use Rattle.serial_order.specs.declared.command.Command.{Command}
use Rattle.serial_order.specs.declared.command.Command.TheVariants as command
use Rattle.serial_order.specs.declared.refusal.Refusal.{Refusal}
use Rattle.serial_order.specs.declared.refusal.Refusal.TheVariants as refusal
use Rattle.store_laws.specs.Stored.{Stored, objects, refusal_of}
use Rattle.store.specs.Ends.{closing_abort, is_other}
use Rattle.store.specs.Follows.{IsMade, with_event}
use Rattle.store.specs.OwnHistory.{at_beginning}
use Rattle.store.specs.Replays.{with_events}
use Rattle.store.specs.Retraces.{AreRetraced, ClosingIsTraced, IsRetraced, IsTracedHistory, MadeIsRetraced, MayRetrace, StepsAreTraced, TracedIsRun}
use Rattle.store.proofs.Closings.{closed-each, closing-ended, closing-opened, closing_below, other-is}
use Rattle.store.proofs.FollowedOps.{call-alone}
use Rattle.store.proofs.OwnHistories.{abort-made}

-- ---- what a command makes

-- it may follow
made-follows : CommandAppends → (s : Stored) (e : Event) → IsMade s e → MayFollow (objects s) s.history e
made-follows appends s e made =
    let its = appends (objects s) s.limits s.history e.worker made.command made.accepted in
    subst (May (objects s) (summary s.history)) (same_Some its.happened e.kind (sym its.is ∙ made.makes)) its.may_follow

-- a call that isn't refused has room
accepted-room : (s : Stored) (t x : ℕ) (name : List ℕ) → refusal_of s (command.Call t x name) ≡ None → is_history_full s.limits s.history 1 ≡ false
accepted-room s t x name =
    by (not (is_open (summary s.history) t)) (not (is_some (slice_get (objects s) x))) (not (is_some (call_at (slice_get (objects s) x) name))) (is_history_full s.limits s.history 1)
  where
    by : (a b c d : Bool)
        → (if a then Some refusal.NotOpen else (if b then Some refusal.NoObject else (if c then Some refusal.NoCall else (if d then Some refusal.HistoryFull else None)))) ≡ None → d ≡ false
    by true b c d is = absurd (none-some refusal.NotOpen (sym is))
    by false true c d is = absurd (none-some refusal.NoObject (sym is))
    by false false true d is = absurd (none-some refusal.NoCall (sym is))
    by false false false true is = absurd (none-some refusal.HistoryFull (sym is))
    by false false false false is = refl

pub made-retraced : CommandAppends → MadeIsRetraced
made-retraced appends s e made = by e.kind refl
  where
    by : (k : EventKind) → e.kind ≡ k → MayRetrace s e k
    by (kind.Begin t) is = made
    by (kind.Op k t x) is =
        let call = call-alone (objects s) (summary s.history) t x (kind.Op k t x) (refl, refl) made.command (made.makes ∙ ap Some is) in
        (made-follows appends s e made, accepted-room s t x call.0 (sym (ap (refusal_of s) call.1) ∙ made.accepted))
    by (kind.Busy c t x u) is = made
    by (kind.None t x c) is = made
    by (kind.Commit t) is = made
    by (kind.Abort t) is = made
    by (kind.Rollback t n) is = made

-- what may be done again may follow
retraced-follows : CommandAppends → (s : Stored) (e : Event) → IsRetraced s e → MayFollow (objects s) s.history e
retraced-follows appends s e again = by e.kind refl again
  where
    by : (k : EventKind) → e.kind ≡ k → MayRetrace s e k → MayFollow (objects s) s.history e
    by (kind.Begin t) is made = made-follows appends s e made
    by (kind.Op k t x) is it = it.0
    by (kind.Busy c t x u) is made = made-follows appends s e made
    by (kind.None t x c) is made = made-follows appends s e made
    by (kind.Commit t) is made = made-follows appends s e made
    by (kind.Abort t) is made = made-follows appends s e made
    by (kind.Rollback t n) is made = made-follows appends s e made

-- ---- a history

traced-runs : CommandAppends → (s : Stored) (es : List Event) → AreRetraced s es → RunsOn (objects s) s.history es
traced-runs appends s [] traced = tt
traced-runs appends s (e ∷ es) traced = (retraced-follows appends s e traced.0, traced-runs appends (with_event s e) es traced.1)

pub traced-run : CommandAppends → TracedIsRun
traced-run appends s traced = traced-runs appends (at_beginning s) s.history traced

-- with an event more
pub traced-more : (s : Stored) (es : List Event) (e : Event) → AreRetraced s es → IsRetraced (with_events s es) e → AreRetraced s (es ++ e ∷ [])
traced-more s [] e traced next = (subst (λ (z : Stored). IsRetraced z e) (ap (λ H. record s { history = H }) (append-nil s.history)) next, tt)
traced-more s (d ∷ es) e traced next =
    (traced.0, traced-more (with_event s d) es e traced.1 (subst (λ (z : Stored). IsRetraced z e) (ap (λ H. record s { history = H }) (sym (append_assoc s.history (d ∷ []) es))) next))

-- ---- a step

stepped-traced : CommandAppends → (s : Stored) (w : ℕ) (command : Command) (r : Option Refusal) (k : Option EventKind) → refusal_of s command ≡ r
    → event_of (objects s) (summary s.history) command ≡ k → IsTracedHistory s → AreRetraced (at_beginning s) (if is_some r then s.history else appended s.history w k)
stepped-traced appends s w command (Some why) k is_r is_k traced = traced
stepped-traced appends s w command None None is_r is_k traced = traced
stepped-traced appends s w command None (Some kind) is_r is_k traced =
    let e : Event = record { worker = w; kind = kind } in
    traced-more (at_beginning s) s.history e traced (made-retraced appends (with_events (at_beginning s) s.history) e (record { command = command; accepted = is_r; makes = is_k }))

pub steps-traced : CommandAppends → StepsAreTraced
steps-traced appends s w command traced = stepped-traced appends s w command (refusal_of s command) (event_of (objects s) (summary s.history) command) refl refl traced

-- ---- the aborts of what is open

module _ (appends : CommandAppends) (goes_on : RunGoesOn) (now : SummaryAfter) (in_run : TransactionsInRun) (opens : OpensAfter) (began : BeginnersAfter) (those : List ℕ) (s : Stored)
    (traced : IsTracedHistory s) where
  -- those below n
  closed-traced : (n : ℕ) → AreRetraced (at_beginning s) (s.history ++ closing_below those s.history n)
  closed-traced zero = subst (AreRetraced (at_beginning s)) (sym (append-nil s.history)) traced
  closed-traced (suc n) =
      let K = s.history ++ closing_below those s.history n in
      let before = closed-traced n in
      let below = closed-each goes_on now in_run opens began those (objects s) s.history (traced-run appends s traced) n in
      subst (λ k. AreRetraced (at_beginning s) (s.history ++ closing_below those s.history k)) (add-one n)
      (elim (cases_Bool (is_other those (summary s.history) n)) [
        | inl going ↦
            let going_on : is_open (summary K) n ≡ true = below.others n (omega arith) ∙ (other-is _ _ going).1 in
            let e = closing_abort s.history n in
            subst (AreRetraced (at_beginning s)) (sym (closing-opened those s.history n going))
            (traced-more (at_beginning s) K e before (made-retraced appends (with_events (at_beginning s) K) e (abort-made s K e n refl going_on)))
        | inr ended ↦ subst (AreRetraced (at_beginning s)) (sym (closing-ended those s.history n ended)) before
      ])

pub closing-traced : CommandAppends → RunGoesOn → SummaryAfter → TransactionsInRun → OpensAfter → BeginnersAfter → ClosingIsTraced
closing-traced appends goes_on now in_run opens began those s traced = closed-traced appends goes_on now in_run opens began those s traced (summary s.history).begun
