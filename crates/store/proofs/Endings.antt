-- The end of a transaction.
use Rattle.store_limits.specs.declared.limits.Limits.{Limits}
use Rattle.std.proofs.Common.{◌≡◌, ℕ, ◌+◌, ◌<◌, ◌≤◌, Bool, true, not, List, [], ◌∷◌, ◌++◌, length, set, Option, Some, None, Ok, refl, sym, ap, subst, ◌∙◌, arith}
use Rattle.std.specs.Prelude.{if◌then◌else◌}
use Rattle.object_trait.specs.Object.{Object}
use Rattle.object_trait.specs.Meaning.{Meaning}
use Rattle.object_trait.specs.declared.event.Event.{Event}
use Rattle.serial_order.specs.History.{Summary, summary, is_open}
use Rattle.serial_order.specs.Machine.{MayFollow}
use Rattle.serial_order.specs.Replay.{open_count, refusal, event_of}
use Rattle.serial_order.specs.declared.refusal.Refusal.TheVariants.{NotOpen}
use Rattle.object_calls.specs.Ends.{ChangesAt, EndsObject}
use Rattle.object_calls.specs.declared.end.End.{End}
use Rattle.object_calls.specs.declared.end.End.TheVariants as end
use Rattle.open_transactions.specs.Transactions as table
use Rattle.open_transactions.specs.Transactions.{Row, row, objects_of_row, count_open}
use Rattle.object_calls.specs.declared.call.NamedCall.{NamedCall}
use Rattle.store_laws.specs.Stored.{Stored, Steps}
use Rattle.store_laws.specs.Kept.{keeping, objects_of, IsKept, IsStore}
use Rattle.store_laws.specs.Moves.{Moves, StaysKept}
use Rattle.store_laws.specs.Before.{RowsSayWhoIsOpen, RowsAreCounted}
use Rattle.store_laws.specs.Events.{end_event, EndMoves, TypesStay, RoomAfter, room_taken}
use Rattle.store.specs.Whole.{IsWholeStore}
use Rattle.store.specs.Ends.{end_command}
use Rattle.store.proofs.Stored.{shown, event-shown, event-whole}
use Rattle.store.proofs.Opens.{its-row, row-places, open-alike}

-- ---- either end

-- a transaction that isn't open has none
pub end-refusal : (how : End) (objects : List Object) (limits : Limits) (H : List Event) (t : ℕ) (going : Bool) → is_open (summary H) t ≡ going
    → refusal objects limits H (end_command how t) ≡ (if not going then Some NotOpen else None)
end-refusal end.Commit objects limits H t going same = ap (λ b. if not b then Some NotOpen else None) same
end-refusal end.Abort objects limits H t going same = ap (λ b. if not b then Some NotOpen else None) same

-- one that is open may end
end-may : (how : End) (objects : List Object) (H : List Event) (w t : ℕ) → is_open (summary H) t ≡ true → MayFollow objects H (record { worker = w; kind = end_event how t })
end-may end.Commit objects H w t opened = opened
end-may end.Abort objects H w t opened = opened

-- which is an event, and takes no room
end-makes : (how : End) (objects : List Object) (s : Summary) (t : ℕ) → event_of objects s (end_command how t) ≡ Some (end_event how t)
end-makes end.Commit objects s t = refl
end-makes end.Abort objects s t = refl

end-takes : (how : End) (t : ℕ) → room_taken (end_event how t) ≡ 0
end-takes end.Commit t = refl
end-takes end.Abort t = refl

-- ---- what it does

-- where one is open, the history has room for one event more
pub end-room : RowsAreCounted → (ms : List Meaning) (rows : List (Option Row)) (H : List Event) (room : ℕ) (limits : Limits) (left : ℕ)
    → IsStore (keeping ms rows) H room limits → left + 1 ≡ count_open rows → (length H < room) × (length H < limits.events)
end-room counted ms rows H room limits left store one =
    let counts : open_count (summary H) ≡ count_open rows = counted (keeping ms rows) H store.kept in
    let reserved : length H + count_open rows ≤ room = subst (λ n. length H + n ≤ room) counts store.reserved in
    let limited : length H + count_open rows ≤ limits.events = subst (λ n. length H + n ≤ limits.events) counts store.limited in
    (omega (arith, reserved, one), omega (arith, limited, one))

-- each object where it has operations is as after its end, and it has no row
module _ (how : End) (moves : EndMoves) (says : RowsSayWhoIsOpen) (ms ms_now : List Meaning)
    (rows now : List (Option Row)) (H after : List Event) (w t : ℕ) (places : List ℕ) (kept : IsKept (keeping ms rows) H)
    (going : table.has_row rows t ≡ true) (its : places ≡ objects_of_row (row rows t)) (objects : ChangesAt places (λ x m n. EndsObject how m t n) ms ms_now)
    (gone : now ≡ set rows t None) (appended : after ≡ H ++ (record { worker = w; kind = end_event how t }) ∷ []) where
  opened : is_open (summary H) t ≡ true
  opened = open-alike says ms rows H t kept ∙ going

  -- so it is what its event does to what is kept
  end-moved : Moves (keeping ms rows) (keeping ms_now now) H (record { worker = w; kind = end_event how t })
  end-moved =
      let found = its-row ms rows H t places kept going its in
      let same = row-places ms rows H t places kept going its in
      moves how (keeping ms rows) (keeping ms_now now) H w t found.0 kept found.1
      (subst (λ ps. ChangesAt ps (λ x m n. EndsObject how m t n) ms ms_now) (sym same) objects)
      gone

  -- the store stays whole
  pub end-whole : StaysKept → RoomAfter → TypesStay → RowsAreCounted → (calls : List (List NamedCall)) (room more : ℕ) (limits : Limits) {places : ℕ} → IsWholeStore ms calls rows H room limits places
      → room ≤ more → limits.events ≤ 4294967295 → count_open now + 1 ≡ count_open rows → IsWholeStore ms_now calls now after more limits places
  end-whole stays room_after types counted calls room more limits whole grown fits one =
      let low = (end-room counted ms rows H room limits (count_open now) whole.store one).1 in
      let reserved = whole.store.reserved in
      let limited = whole.store.limited in
      let free : room_taken (end_event how t) ≡ 0 = end-takes how t in
      event-whole stays room_after types ms ms_now calls rows now H after (record { worker = w; kind = end_event how t }) room more limits whole
      (end-may how (objects_of ms) H w t opened) end-moved appended (omega (arith, low, fits))
      (subst (λ n. length H + open_count (summary H) + n ≤ more) (sym free) (omega (arith, reserved, grown)))
      (subst (λ n. length H + open_count (summary H) + n ≤ limits.events) (sym free) (omega (arith, limited))) (omega (arith, whole.few_open, free))

  -- and callers see the event
  pub end-shown : TypesStay → (T : Type 0) (x : T) (limits : Limits) (forgotten : ℕ) (s : Stored) → shown (keeping ms rows) H limits forgotten ≡ s
      → Steps {T = T} s w (end_command how t) (Ok x) (shown (keeping ms_now now) after limits forgotten)
  end-shown types T x limits forgotten s same =
      event-shown types T (keeping ms rows) (keeping ms_now now) H after w limits forgotten (end_event how t) (end_command how t) x s same end-moved appended
      (end-refusal how (objects_of ms) limits H t true opened) (end-makes how (objects_of ms) (summary H) t)
