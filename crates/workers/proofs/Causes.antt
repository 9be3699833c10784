-- What a history owes a refusal: that it goes on owing it, and that it does where the store refuses.
use Rattle.std.proofs.Common.{◌≡◌, ℕ, suc, ◌+◌, ◌<◌, ◌≤◌, Bool, true, false, not, nat_le, List, [], ◌∷◌, ◌++◌, length, Some, None, is_some, slice_get, subst, inl, inr, length-append, arith}
use Rattle.std.specs.Prelude.{if◌then◌else◌}
use Rattle.std.proofs.lemmas.Bool.{cases_Bool, ltb-true, leb-true}
use Rattle.std.proofs.lemmas.Option.{none-some, same_Some}
use Rattle.object_trait.specs.Object.{Object}
use Rattle.object_trait.specs.declared.event.Event.{Event}
use Rattle.object_trait.specs.declared.event.EventKind.{EventKind}
use Rattle.object_trait.specs.declared.event.EventKind.TheVariants as kind
use Rattle.object_trait.specs.declared.event.EventKind.TheVariants.{Begin, Op, Busy, Commit, Abort, Rollback}
use Rattle.serial_order.specs.History.{summary, is_open}
use Rattle.serial_order.specs.Replay.{open_count, is_history_full, call_at, refusal}
use Rattle.serial_order.specs.After.{CountsTo}
use Rattle.serial_order.specs.declared.command.Command.TheVariants as command
use Rattle.serial_order.specs.declared.refusal.Refusal.{Refusal}
use Rattle.serial_order.specs.declared.refusal.Refusal.TheVariants.{NotOpen, NoObject, NoCall, TooManyOpen, HistoryFull, NoMemory, BadRollback}
use Rattle.workers.specs.SharedState.{Start, HasCause}
use Rattle.workers.proofs.Follows.{Follows}

-- ---- it goes on owing it

-- an event takes no room back
room-falls : (happened : EventKind) (before now : ℕ) → CountsTo happened before now → before ≤ suc now
room-falls (Begin t) before now counts = omega (arith, counts)
room-falls (Op k t x) before now counts = omega (arith, counts)
room-falls (Busy c t x u) before now counts = omega (arith, counts)
room-falls (kind.None t x c) before now counts = omega (arith, counts)
room-falls (Commit t) before now counts = omega (arith, counts)
room-falls (Abort t) before now counts = omega (arith, counts)
room-falls (Rollback t n) before now counts = omega (arith, counts)

pub cause-stays : (o : Start) (H : List Event) (e : Event) → Follows H e → (r : Refusal) → HasCause o H r → HasCause o (H ++ e ∷ []) r
cause-stays o H e last HistoryFull cause =
    let longer = length-append H (e ∷ []) in
    let falls = room-falls e.kind _ _ last.counts in
    omega (arith, cause, longer, falls)
cause-stays o H e last TooManyOpen cause = cause
cause-stays o H e last NotOpen cause = tt
cause-stays o H e last NoObject cause = tt
cause-stays o H e last NoCall cause = tt
cause-stays o H e last NoMemory cause = tt
cause-stays o H e last BadRollback cause = tt

-- ---- where the store refuses

module _ (o : Start) (H : List Event) (objects : List Object) where
  -- the cause of the reason that is given
  by-reason : (reason r : Refusal) → HasCause o H reason → Some reason ≡ Some r → HasCause o H r
  by-reason reason r cause given = subst (HasCause o H) (same_Some reason r given) cause

  -- a begin, where fewer are going than there are workers
  pub begin-cause : (r : Refusal) → open_count (summary H) < open_count (summary o.store.history) + length o.jobs
      → refusal objects o.store.limits H command.Begin ≡ Some r → HasCause o H r
  begin-cause r few refused =
      elim (cases_Bool (nat_le o.store.limits.«open» (open_count (summary H)))) [
        | inl many ↦
            let most = leb-true o.store.limits.«open» (open_count (summary H)) many in
            by-reason TooManyOpen r (omega (arith, most, few)) (rw many at refused)
        | inr fine ↦
            elim (cases_Bool (is_history_full o.store.limits H 2)) [
              | inl full ↦ by-reason HistoryFull r (ltb-true o.store.limits.events (length H + open_count (summary H) + 2) full) (rw (fine, full) at refused)
              | inr room ↦ absurd (none-some r (rw (fine, room) at refused))
            ]
      ]

  -- a call
  pub call-cause : (t x : ℕ) (name : List ℕ) (r : Refusal) → refusal objects o.store.limits H (command.Call t x name) ≡ Some r → HasCause o H r
  call-cause t x name r refused =
      elim (cases_Bool (is_open (summary H) t)) [
        | inr ended ↦ by-reason NotOpen r tt (rw ended at refused)
        | inl going ↦ no_object (rw going at refused)
      ]
    where
      full_or : (if is_history_full o.store.limits H 1 then Some HistoryFull else None) ≡ Some r → HasCause o H r
      full_or given =
          elim (cases_Bool (is_history_full o.store.limits H 1)) [
            | inl full ↦
                let more = ltb-true o.store.limits.events (length H + open_count (summary H) + 1) full in
                by-reason HistoryFull r (omega (arith, more)) (rw full at given)
            | inr room ↦ absurd (none-some r (rw room at given))
          ]

      no_call : (there : Bool) → (if not there then Some NoCall else (if is_history_full o.store.limits H 1 then Some HistoryFull else None)) ≡ Some r → HasCause o H r
      no_call true given = full_or given
      no_call false given = by-reason NoCall r tt given

      no_object : (if not (is_some (slice_get objects x)) then Some NoObject
          else (if not (is_some (call_at (slice_get objects x) name)) then Some NoCall
          else (if is_history_full o.store.limits H 1 then Some HistoryFull else None))) ≡ Some r → HasCause o H r
      no_object given =
          elim (cases_Bool (is_some (slice_get objects x))) [
            | inr missing ↦ by-reason NoObject r tt (rw missing at given)
            | inl there ↦ no_call (is_some (call_at (slice_get objects x) name)) (rw there at given)
          ]
