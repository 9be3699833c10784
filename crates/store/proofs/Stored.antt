-- What a store keeps, and shows to its callers, after a call.
use Rattle.store_limits.specs.declared.limits.Limits.{Limits}
use Rattle.std.proofs.Common.{◌≡◌, ℕ, ◌+◌, ◌<◌, ◌≤◌, List, [], ◌∷◌, ◌++◌, length, Option, Some, None, Ok, Err, sym, ap, subst, ◌∙◌, arith}
use Rattle.std.proofs.lemmas.List.{length-append, length-map}
use Rattle.table_checker.specs.Checked.{Checked}
use Rattle.object_trait.specs.declared.event.Event.{Event}
use Rattle.object_trait.specs.declared.event.EventKind.{EventKind}
use Rattle.serial_order.specs.History.{summary}
use Rattle.serial_order.specs.Machine.{MayFollow}
use Rattle.serial_order.specs.Replay.{open_count, refusal, event_of}
use Rattle.serial_order.specs.declared.command.Command.{Command}
use Rattle.serial_order.specs.declared.refusal.Refusal.{Refusal}
use Rattle.serial_order.specs.declared.refusal.Refusal.TheVariants.{NoMemory}
use Rattle.store_laws.specs.Stored.{Stored, types_of, Steps, MayStep}
use Rattle.store_laws.specs.Kept.{Keeping, keeping, objects_of, IsKept, IsStore}
use Rattle.store_laws.specs.Moves.{Moves, StaysKept}
use Rattle.store_laws.specs.Events.{room_taken, TypesStay, RoomAfter}
use Rattle.open_transactions.specs.Transactions.{Row}
use Rattle.object_trait.specs.Meaning.{Meaning}
use Rattle.object_calls.specs.declared.call.NamedCall.{NamedCall}
use Rattle.store.specs.Whole.{HasCalls, IsLimited, IsWholeStore}
use Rattle.store.proofs.Steps.{refused-steps, accepted-steps, memory_refused-steps}

-- ---- what callers see

abbrev pub stored : List Checked → List Event → Limits → ℕ → Stored
stored types H limits forgotten = record { types = types; history = H; limits = limits; forgotten = forgotten }

abbrev pub shown : Keeping → List Event → Limits → ℕ → Stored
shown k H limits forgotten = stored (types_of k.meanings) H limits forgotten

-- where the call is refused
pub refused-shown : (T : Type 0) (k : Keeping) (H : List Event) (w : ℕ) (limits : Limits) (forgotten : ℕ) (command : Command) (r : Refusal) (s : Stored) → shown k H limits forgotten ≡ s
    → refusal (objects_of k.meanings) limits H command ≡ Some r → Steps {T = T} s w command (Err r) s
refused-shown T k H w limits forgotten command r s same reason =
    subst (λ (z : Stored). Steps {T = T} z w command (Err r) z) same (refused-steps T (shown k H limits forgotten) w command r reason)

-- where memory was refused: the history has the same events
pub memory_refused-shown : (T : Type 0) (k : Keeping) (H after : List Event) (w : ℕ) (limits : Limits) (forgotten : ℕ) (command : Command) (s : Stored) → shown k H limits forgotten ≡ s
    → refusal (objects_of k.meanings) limits H command ≡ None → after ≡ H → MayStep {T = T} s w command (Err NoMemory) (shown k after limits forgotten)
memory_refused-shown T k H after w limits forgotten command s same unrefused stays =
    subst (λ (z : Stored). MayStep {T = T} z w command (Err NoMemory) (shown k after limits forgotten)) same
    (memory_refused-steps T (shown k H limits forgotten) w command (shown k after limits forgotten) unrefused (ap (λ K. stored (types_of k.meanings) K limits forgotten) stays))

-- where there is an event
pub event-shown : TypesStay → (T : Type 0) (old new : Keeping) (H after : List Event) (w : ℕ) (limits : Limits) (forgotten : ℕ) (happened : EventKind) (command : Command) (x : T) (s : Stored)
    → shown old H limits forgotten ≡ s → Moves old new H (record { worker = w; kind = happened }) → after ≡ H ++ (record { worker = w; kind = happened }) ∷ []
    → refusal (objects_of old.meanings) limits H command ≡ None → event_of (objects_of old.meanings) (summary H) command ≡ Some happened
    → Steps {T = T} s w command (Ok x) (shown new after limits forgotten)
event-shown types T old new H after w limits forgotten happened command x s same moves appended unrefused makes =
    let same_types : types_of new.meanings ≡ types_of old.meanings = types old new H (record { worker = w; kind = happened }) moves in
    subst (λ (z : Stored). Steps {T = T} z w command (Ok x) (shown new after limits forgotten)) same
    (accepted-steps T (shown old H limits forgotten) w command x happened (shown new after limits forgotten) unrefused makes
    (ap (λ ts. stored ts after limits forgotten) same_types ∙ ap (λ K. stored (types_of old.meanings) K limits forgotten) appended))

-- ---- what is kept

-- an event for which there is room
pub event-store : StaysKept → RoomAfter → (old new : Keeping) (H after : List Event) (e : Event) (room more : ℕ) (limits : Limits)
    → IsStore old H room limits → MayFollow (objects_of old.meanings) H e → Moves old new H e → after ≡ H ++ e ∷ [] → length H < 4294967295
    → length H + open_count (summary H) + room_taken e.kind ≤ more → length H + open_count (summary H) + room_taken e.kind ≤ limits.events → IsStore new after more limits
event-store stays room_after old new H after e room more limits store may moves appended short reserved limited =
    let longer = room_after (objects_of old.meanings) H e store.kept.run may in
    subst (λ K. IsStore new K more limits) (sym appended)
    (record {
      kept = stays old new H e store.kept may moves short;
      reserved = subst (λ n. n ≤ more) (sym longer) reserved;
      limited = subst (λ n. n ≤ limits.events) (sym longer) limited;
    })

-- one that begins none leaves no more open
open-after : RoomAfter → (old : Keeping) (H : List Event) (e : Event) (limits : Limits) → IsKept old H → MayFollow (objects_of old.meanings) H e
    → open_count (summary H) + room_taken e.kind ≤ limits.«open» + 1 → open_count (summary (H ++ e ∷ [])) ≤ limits.«open»
open-after room_after old H e limits kept may few = omega (arith, room_after (objects_of old.meanings) H e kept.run may, few, length-append H (e ∷ []))

-- and so for all parts of a store
pub event-whole : StaysKept → RoomAfter → TypesStay → (ms now : List Meaning) (calls : List (List NamedCall)) (rows left : List (Option Row))
    (H after : List Event) (e : Event) (room more : ℕ) (limits : Limits) {places : ℕ} → IsWholeStore ms calls rows H room limits places → MayFollow (objects_of ms) H e
    → Moves (keeping ms rows) (keeping now left) H e → after ≡ H ++ e ∷ [] → length H < 4294967295
    → length H + open_count (summary H) + room_taken e.kind ≤ more → length H + open_count (summary H) + room_taken e.kind ≤ limits.events
    → open_count (summary H) + room_taken e.kind ≤ limits.«open» + 1 → IsWholeStore now calls left after more limits places
event-whole stays room_after types ms now calls rows left H after e room more limits {places} whole may moves appended short reserved limited few =
    let same : types_of now ≡ types_of ms = types (keeping ms rows) (keeping now left) H e moves in
    let as_many : length now ≡ length ms = sym (length-map now (λ m. m.checked)) ∙ ap length same ∙ length-map ms (λ m. m.checked) in
    record {
      store = event-store stays room_after (keeping ms rows) (keeping now left) H after e room more limits whole.store may moves appended short reserved limited;
      within = subst (λ n. IsLimited n limits places) (sym as_many) whole.within;
      few_open = subst (λ K. open_count (summary K) ≤ limits.«open») (sym appended) (open-after room_after (keeping ms rows) H e limits whole.store.kept may few);
      known = subst (λ ts. HasCalls ts calls) (sym same) whole.known;
    }
