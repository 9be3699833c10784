-- A rollback.
use Rattle.store_limits.specs.declared.limits.Limits.{Limits}
use Rattle.std.proofs.Common.{◌≡◌, ℕ, ◌+◌, ◌-◌, ◌<◌, ◌≤◌, Bool, true, false, not, ◌||◌, ◌==◌, nat_lt, nat_le, ◌⊎◌, List, [], ◌∷◌, ◌++◌, length, take, drop, set, Option, Some, None, Ok, option_map, refl, sym, ap, subst, ◌∙◌, inl, inr, arith}
use Rattle.std.specs.Prelude.{if◌then◌else◌}
use Rattle.std.proofs.lemmas.Bool.Decides.{nat_tests}
use Rattle.std.proofs.lemmas.List.{take_rest}
use Rattle.std.proofs.Math.Bool.{or-true}
use Rattle.object_trait.specs.Object.{Object}
use Rattle.object_trait.specs.Meaning.{Meaning}
use Rattle.object_trait.specs.Steps.{IsStrike}
use Rattle.object_trait.specs.declared.event.Event.{Event}
use Rattle.object_trait.specs.declared.event.EventKind.TheVariants.{Rollback}
use Rattle.serial_order.specs.Operations.{of}
use Rattle.serial_order.specs.History.{summary, is_open}
use Rattle.serial_order.specs.Machine.{MayFollow}
use Rattle.serial_order.specs.Replay.{open_count, refusal, is_history_full}
use Rattle.serial_order.specs.declared.command.Command.TheVariants as command
use Rattle.serial_order.specs.declared.refusal.Refusal.TheVariants.{NotOpen, BadRollback, HistoryFull}
use Rattle.object_calls.specs.Ends.{ChangesAt, times_in}
use Rattle.open_transactions.specs.Transactions as table
use Rattle.open_transactions.specs.Transactions.{Row, row, objects_of_row, count_open, changed}
use Rattle.object_calls.specs.declared.call.NamedCall.{NamedCall}
use Rattle.store_laws.specs.Stored.{Stored, Steps}
use Rattle.store_laws.specs.Kept.{keeping, objects_of, IsKept}
use Rattle.store_laws.specs.Moves.{Moves, StaysKept, without_places}
use Rattle.store_laws.specs.Before.{last_places, RowsSayWhoIsOpen, RowsAreCounted, PlacesAreCounted}
use Rattle.store_laws.specs.Events.{RollbackMoves, TypesStay, RoomAfter}
use Rattle.store.specs.Whole.{IsWholeStore}
use Rattle.store.proofs.Stored.{shown, event-shown, event-whole}
use Rattle.store.proofs.Begins.{full-then, full-else}
use Rattle.store.proofs.Opens.{its-row, row-places, open-alike, places-counted}

-- ---- whether it is refused

-- by three tests, in this order
rollback-refusal : (objects : List Object) (limits : Limits) (H : List Event) (t n : ℕ) (going bad full : Bool) → is_open (summary H) t ≡ going
    → (n == 0 || nat_lt (length (of t (summary H).survives)) n) ≡ bad → is_history_full limits H 1 ≡ full
    → refusal objects limits H (command.Rollback t n)
    ≡ (if not going then Some NotOpen else (if bad then Some BadRollback else (if full then Some HistoryFull else None)))
rollback-refusal objects limits H t n going bad full open_is bad_is full_is =
    ap (λ b. if not b then Some NotOpen else (if n == 0 || nat_lt (length (of t (summary H).survives)) n then Some BadRollback else (if is_history_full limits H 1 then Some HistoryFull else None))) open_is
    ∙ ap (λ b. if not going then Some NotOpen else (if b then Some BadRollback else (if is_history_full limits H 1 then Some HistoryFull else None))) bad_is
    ∙ ap (λ b. if not going then Some NotOpen else (if bad then Some BadRollback else (if b then Some HistoryFull else None))) full_is

-- a transaction can't strike none of its operations that survive, or more than there are
none-or-more : (living n : ℕ) → (n ≡ 0) ⊎ (living < n) → (n == 0 || nat_lt living n) ≡ true
none-or-more living n bad =
    elim bad [
      | inl none ↦ let first : (n == 0) ≡ true = grind (arith, nat_tests, none) in ap (λ b. b || nat_lt living n) first
      | inr more ↦ let second : nat_lt living n ≡ true = grind (arith, nat_tests, more) in ap (λ b. n == 0 || b) second ∙ or-true (n == 0)
    ]

-- any other number it can
some-living : (living n : ℕ) → 0 < n → n ≤ living → (n == 0 || nat_lt living n) ≡ false
some-living living n some few =
    let first : (n == 0) ≡ false = grind (arith, nat_tests, some) in
    let second : nat_lt living n ≡ false = grind (arith, nat_tests, few) in
    ap (λ b. b || nat_lt living n) first ∙ second

-- where the transaction has no row
pub rollback-closed : RowsSayWhoIsOpen → (ms : List Meaning) (rows : List (Option Row)) (H : List Event) (t n : ℕ) (limits : Limits) → IsKept (keeping ms rows) H
    → table.has_row rows t ≡ false → refusal (objects_of ms) limits H (command.Rollback t n) ≡ Some NotOpen
rollback-closed says ms rows H t n limits kept ended =
    rollback-refusal (objects_of ms) limits H t n false _ _ (open-alike says ms rows H t kept ∙ ended) refl refl

-- and where it has one
module _ (says : RowsSayWhoIsOpen) (living : PlacesAreCounted) (ms : List Meaning) (rows : List (Option Row)) (H : List Event) (t n : ℕ) (limits : Limits) (places : List ℕ)
    (kept : IsKept (keeping ms rows) H) (going : table.has_row rows t ≡ true) (its : places ≡ objects_of_row (row rows t)) where
  -- it is open
  going-on : is_open (summary H) t ≡ true
  going-on = open-alike says ms rows H t kept ∙ going

  -- as many of its operations survive as its row has places
  as-living : (bad : Bool) → (n == 0 || nat_lt (length places) n) ≡ bad → (n == 0 || nat_lt (length (of t (summary H).survives)) n) ≡ bad
  as-living bad test = ap (λ m. n == 0 || nat_lt m n) (places-counted ms rows H t places kept going its living) ∙ test

  -- none is to be struck, or more than survive
  pub rollback-bad : (n ≡ 0) ⊎ (length places < n) → refusal (objects_of ms) limits H (command.Rollback t n) ≡ Some BadRollback
  rollback-bad bad =
      rollback-refusal (objects_of ms) limits H t n true true _ going-on (as-living true (none-or-more (length places) n bad)) refl

  -- or as many as survive, or fewer
  module _ (counted : RowsAreCounted) (opened : ℕ) (counts : opened ≡ count_open rows) (some : 0 < n) (few : n ≤ length places) where
    -- the number of open transactions is known
    open-summary : opened ≡ open_count (summary H)
    open-summary = counts ∙ sym (counted (keeping ms rows) H kept)

    -- its number is right
    there : (n == 0 || nat_lt (length (of t (summary H).survives)) n) ≡ false
    there = as-living false (some-living (length places) n some few)

    -- with no room
    pub rollback-full : nat_le (length H + opened + 1) limits.events ≡ false → refusal (objects_of ms) limits H (command.Rollback t n) ≡ Some HistoryFull
    rollback-full none =
        rollback-refusal (objects_of ms) limits H t n true false true going-on there (full-then H opened 1 limits open-summary none)

    -- else it isn't refused
    pub rollback-unrefused : nat_le (length H + opened + 1) limits.events ≡ true → refusal (objects_of ms) limits H (command.Rollback t n) ≡ None
    rollback-unrefused room =
        rollback-refusal (objects_of ms) limits H t n true false false going-on there (full-else H opened 1 limits open-summary room)

  -- its event may follow
  pub rollback-may : (w : ℕ) → 0 < n → n ≤ length places → MayFollow (objects_of ms) H (record { worker = w; kind = Rollback t n })
  rollback-may w some few = (going-on, some, subst (λ m. n ≤ m) (sym (places-counted ms rows H t places kept going its living)) few)

-- ---- what it does

-- the places from there on are those of its last n operations
pub places-from : (n : ℕ) (places : List ℕ) → take (length places - (length places - n)) (drop (length places - n) places) ≡ last_places n places
places-from n places = take_rest places (length places - n)

-- at each object where one of the last n operations is, as many are struck as are there
module _ (moves : RollbackMoves) (ms ms_now : List Meaning) (rows now : List (Option Row)) (H after : List Event) (w t n left : ℕ)
    (places struck : List ℕ) (kept : IsKept (keeping ms rows) H) (going : table.has_row rows t ≡ true) (its : places ≡ objects_of_row (row rows t))
    (ends : struck ≡ last_places n places) (objects : ChangesAt struck (λ x m k. IsStrike m t (times_in x struck) k) ms ms_now)
    (rest : left ≡ length places - n) (fewer : now ≡ changed rows t (table.kept left))
    (appended : after ≡ H ++ (record { worker = w; kind = Rollback t n }) ∷ []) where
  -- its row has the first places
  rows-left : now ≡ set rows t (Some (without_places n (its-row ms rows H t places kept going its).0))
  rows-left =
      let found = its-row ms rows H t places kept going its in
      fewer
      ∙ ap (λ r. set rows t (option_map (table.kept left) r)) found.1
      ∙ ap (λ k. set rows t (Some (table.kept k found.0))) (rest ∙ ap (λ ps. length ps - n) (sym (row-places ms rows H t places kept going its)))

  -- and so it is what its event does to what is kept
  rollback-moved : Moves (keeping ms rows) (keeping ms_now now) H (record { worker = w; kind = Rollback t n })
  rollback-moved =
      let found = its-row ms rows H t places kept going its in
      let same : struck ≡ last_places n (found.0).places = ends ∙ ap (last_places n) (sym (row-places ms rows H t places kept going its)) in
      moves (keeping ms rows) (keeping ms_now now) H w t n found.0 kept found.1
      (subst (λ ps. ChangesAt ps (λ x m k. IsStrike m t (times_in x ps) k) ms ms_now) same objects)
      rows-left

  -- the store stays whole
  pub rollback-whole : StaysKept → RoomAfter → TypesStay → RowsAreCounted → MayFollow (objects_of ms) H (record { worker = w; kind = Rollback t n })
      → (calls : List (List NamedCall)) (opened room more : ℕ) (limits : Limits) {places : ℕ} → IsWholeStore ms calls rows H room limits places → opened ≡ count_open rows → limits.events ≤ 4294967295
      → length H + opened + 1 ≤ more → length H + opened + 1 ≤ limits.events → IsWholeStore ms_now calls now after more limits places
  rollback-whole stays room_after types counted may calls opened room more limits whole counts fits reserved limited =
      let same : opened ≡ open_count (summary H) = counts ∙ sym (counted (keeping ms rows) H kept) in
      event-whole stays room_after types ms ms_now calls rows now H after (record { worker = w; kind = Rollback t n }) room more limits whole may
      rollback-moved appended (omega (arith, limited, fits)) (subst (λ m. length H + m + 1 ≤ more) same reserved) (subst (λ m. length H + m + 1 ≤ limits.events) same limited) (omega (arith, whole.few_open))

  -- and callers see the event
  pub rollback-shown : TypesStay → (T : Type 0) (x : T) (limits : Limits) (forgotten : ℕ) (s : Stored) → shown (keeping ms rows) H limits forgotten ≡ s
      → refusal (objects_of ms) limits H (command.Rollback t n) ≡ None → Steps {T = T} s w (command.Rollback t n) (Ok x) (shown (keeping ms_now now) after limits forgotten)
  rollback-shown types T x limits forgotten s same unrefused =
      event-shown types T (keeping ms rows) (keeping ms_now now) H after w limits forgotten (Rollback t n) (command.Rollback t n) x s same rollback-moved appended unrefused refl
