-- The begin of a transaction.
use Rattle.store_limits.specs.declared.limits.Limits.{Limits}
use Rattle.std.proofs.Common.{◌≡◌, ℕ, ◌+◌, ◌<◌, ◌≤◌, true, false, nat_lt, nat_le, List, [], ◌∷◌, ◌++◌, length, Option, Some, None, Ok, refl, sym, ap, subst, ◌∙◌, arith}
use Rattle.std.proofs.lemmas.Bool.Decides.{nat_tests}
use Rattle.object_trait.specs.Object.{Object}
use Rattle.object_trait.specs.Meaning.{Meaning}
use Rattle.object_trait.specs.declared.event.Event.{Event}
use Rattle.object_trait.specs.declared.event.EventKind.TheVariants.{Begin}
use Rattle.serial_order.specs.History.{summary, begins}
use Rattle.serial_order.specs.Replay.{open_count, refusal, is_history_full}
use Rattle.serial_order.specs.declared.command.Command.TheVariants as command
use Rattle.serial_order.specs.declared.refusal.Refusal.TheVariants.{TooManyOpen, HistoryFull}
use Rattle.open_transactions.specs.Transactions.{Row, count_open, begun_by}
use Rattle.object_calls.specs.declared.call.NamedCall.{NamedCall}
use Rattle.store_laws.specs.Stored.{Stored, Steps}
use Rattle.store_laws.specs.Kept.{keeping, objects_of, IsKept}
use Rattle.store_laws.specs.Moves.{Moves, StaysKept}
use Rattle.store_laws.specs.Before.{RowsAreCounted}
use Rattle.store_laws.specs.Events.{BeginMoves, TypesStay, RoomAfter}
use Rattle.store.specs.Whole.{IsWholeStore}
use Rattle.store.proofs.Stored.{shown, event-shown, event-whole}

-- ---- whether it is refused

-- a history is full exactly where there is no room
pub full-test : (H : List Event) (opened further : ℕ) (limits : Limits) → opened ≡ open_count (summary H) → is_history_full limits H further ≡ nat_lt limits.events (length H + opened + further)
full-test H opened further limits same = rw same refl

-- it is full where there is no room for `further` events
pub full-then : (H : List Event) (opened further : ℕ) (limits : Limits) → opened ≡ open_count (summary H) → nat_le (length H + opened + further) limits.events ≡ false → is_history_full limits H further ≡ true
full-then H opened further limits same none =
    let full : nat_lt limits.events (length H + opened + further) ≡ true = grind (arith, nat_tests, none) in
    full-test H opened further limits same ∙ full

-- and else it isn't
pub full-else : (H : List Event) (opened further : ℕ) (limits : Limits) → opened ≡ open_count (summary H) → nat_le (length H + opened + further) limits.events ≡ true → is_history_full limits H further ≡ false
full-else H opened further limits same room =
    let full : nat_lt limits.events (length H + opened + further) ≡ false = grind (arith, nat_tests, room) in
    full-test H opened further limits same ∙ full

module _ (objects : List Object) (limits : Limits) (H : List Event) (opened : ℕ) (same : opened ≡ open_count (summary H)) where
  -- with as many open as may be
  pub begin-many : limits.«open» ≤ opened → refusal objects limits H command.Begin ≡ Some TooManyOpen
  begin-many many =
      let test : nat_le limits.«open» opened ≡ true = grind (arith, nat_tests, many) in
      rw (rw same at test) refl

  -- with no room
  pub begin-full : opened < limits.«open» → nat_le (length H + opened + 2) limits.events ≡ false → refusal objects limits H command.Begin ≡ Some HistoryFull
  begin-full few none =
      let test : nat_le limits.«open» opened ≡ false = grind (arith, nat_tests, few) in
      let full : nat_lt limits.events (length H + opened + 2) ≡ true = grind (arith, nat_tests, none) in
      rw (rw same at test, rw same at full) refl

  -- else it isn't refused
  pub begin-unrefused : opened < limits.«open» → nat_le (length H + opened + 2) limits.events ≡ true → refusal objects limits H command.Begin ≡ None
  begin-unrefused few room =
      let test : nat_le limits.«open» opened ≡ false = grind (arith, nat_tests, few) in
      let full : nat_lt limits.events (length H + opened + 2) ≡ false = grind (arith, nat_tests, room) in
      rw (rw same at test, rw same at full) refl

-- ---- what it does

-- a row is one more
module _ (moves : BeginMoves) (ms : List Meaning) (rows now : List (Option Row)) (H after : List Event) (w t : ℕ)
    (kept : IsKept (keeping ms rows) H) (number : t ≡ length rows) (longer : now ≡ rows ++ Some (begun_by w) ∷ [])
    (appended : after ≡ H ++ (record { worker = w; kind = Begin t }) ∷ []) where
  -- its number is how many began
  pub begin-number : t ≡ begins H
  begin-number = number ∙ kept.begun

  -- so it is what its event does to what is kept
  begin-moved : Moves (keeping ms rows) (keeping ms now) H (record { worker = w; kind = Begin t })
  begin-moved = moves (keeping ms rows) (keeping ms now) H w t kept refl longer

  -- the store stays whole
  pub begin-whole : StaysKept → RoomAfter → TypesStay → RowsAreCounted → (calls : List (List NamedCall)) (opened room more : ℕ) (limits : Limits) {places : ℕ} → IsWholeStore ms calls rows H room limits places
      → opened ≡ count_open rows → limits.events ≤ 4294967295 → length H + opened + 2 ≤ more → length H + opened + 2 ≤ limits.events → opened < limits.«open» → IsWholeStore ms calls now after more limits places
  begin-whole stays room_after types counted calls opened room more limits whole counts fits reserved limited few =
      let same : opened ≡ open_count (summary H) = counts ∙ sym (counted (keeping ms rows) H kept) in
      event-whole stays room_after types ms ms calls rows now H after (record { worker = w; kind = Begin t }) room more limits whole begin-number
      begin-moved appended (omega (arith, fits, limited)) (subst (λ n. length H + n + 2 ≤ more) same reserved)
      (subst (λ n. length H + n + 2 ≤ limits.events) same limited) (omega (arith, same, few))

  -- and callers see the event
  pub begin-shown : TypesStay → (limits : Limits) (forgotten : ℕ) (s : Stored) → shown (keeping ms rows) H limits forgotten ≡ s → refusal (objects_of ms) limits H command.Begin ≡ None
      → Steps s w command.Begin (Ok t) (shown (keeping ms now) after limits forgotten)
  begin-shown types limits forgotten s same unrefused =
      event-shown types ℕ (keeping ms rows) (keeping ms now) H after w limits forgotten (Begin t) command.Begin t s same begin-moved appended unrefused
      (ap (λ n. Some (Begin n)) (sym begin-number))
