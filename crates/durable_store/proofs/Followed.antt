-- A store follows the events of a file, and forgets some of them meanwhile.
use Rattle.store_limits.specs.declared.limits.Limits.{Limits}
use Rattle.std.proofs.Common.{◌≡◌, ℕ, zero, suc, List, [], ◌∷◌, map, false, take, Some, refl, sym, ap, subst}
use Rattle.std.specs.Prelude.{slice_get}
use Rattle.std.proofs.lemmas.Option.{same_Some}
use Rattle.std.proofs.lemmas.List.{append_assoc, append-nil}
use Rattle.object_trait.specs.declared.event.Event.{Event}
use Rattle.object_trait.specs.declared.event.EventKind.{EventKind}
use Rattle.object_trait.specs.declared.event.EventKind.TheVariants as kind
use Rattle.object_trait.specs.Object.{object_of}
use Rattle.serial_order.specs.Machine.{MayFollow}
use Rattle.serial_order.specs.Replay.{is_history_full}
use Rattle.table_checker.specs.Checked.{Checked}
use Rattle.store_laws.specs.Stored.{Stored}
use Rattle.store.specs.Follows.{IsMade, MakesEvent, with_event}
use Rattle.store.specs.Replays.{with_events}
use Rattle.store.specs.Retraces.{AreRetraced, IsRetraced, MayRetrace}
use Rattle.event_text.specs.EventText.{events_of_kinds}
use Rattle.durable_store.specs.Durable.{event_of_kind}

-- an event is made by a store with the same types, the same history and the same limit, however much either remembers
pub made-alike : (s z : Stored) (e : Event) → s.types ≡ z.types → s.history ≡ z.history → s.limits ≡ z.limits → IsMade s e → IsMade z e
made-alike s z e types history max made =
    let At : List Checked → List Event → Limits → ℕ → Stored = λ ts H m f. record { types = ts; history = H; limits = m; forgotten = f } in
    let one : MakesEvent (At s.types s.history s.limits z.forgotten) made.command e.kind = (made.accepted, made.makes) in
    let two = subst (λ ts. MakesEvent (At ts s.history s.limits z.forgotten) made.command e.kind) types one in
    let three = subst (λ H. MakesEvent (At z.types H s.limits z.forgotten) made.command e.kind) history two in
    let four = subst (λ m. MakesEvent (At z.types z.history m z.forgotten) made.command e.kind) max three in
    record { command = made.command; accepted = four.0; makes = four.1 }

-- and so is one that may be done again
pub retraced-alike : (s z : Stored) (e : Event) → s.types ≡ z.types → s.history ≡ z.history → s.limits ≡ z.limits → IsRetraced s e → IsRetraced z e
retraced-alike s z e types history max again = by e.kind again
  where
    by : (k : EventKind) → MayRetrace s e k → MayRetrace z e k
    by (kind.Begin t) it = made-alike s z e types history max it
    by (kind.Op k t x) it =
        let P : List Checked → List Event → Limits → Type 0 = λ ts H m. MayFollow (map object_of ts) H e × (is_history_full m H 1 ≡ false) in
        subst (λ ts. P ts z.history z.limits) types (subst (λ H. P s.types H z.limits) history (subst (λ m. P s.types s.history m) max it))
    by (kind.Busy c t x u) it = made-alike s z e types history max it
    by (kind.None t x c) it = made-alike s z e types history max it
    by (kind.Commit t) it = made-alike s z e types history max it
    by (kind.Abort t) it = made-alike s z e types history max it
    by (kind.Rollback t n) it = made-alike s z e types history max it

-- where all are done again, the next one is
pub retraced-next : (s : Stored) (es : List Event) (at : ℕ) (e : Event) → AreRetraced s es → slice_get es at ≡ Some e → IsRetraced (with_events s (take at es)) e
retraced-next s [] at e again there = absurd (cc)
retraced-next s (d ∷ es) zero e again there =
    subst (λ (z : Stored). IsRetraced z e) (sym (ap (λ H. record s { history = H }) (append-nil s.history))) (subst (IsRetraced s) (same_Some d e there) again.0)
retraced-next s (d ∷ es) (suc at) e again there =
    subst (λ (z : Stored). IsRetraced z e) (ap (λ H. record s { history = H }) (append_assoc s.history (d ∷ []) (take at es))) (retraced-next (with_event s d) es at e again.1 there)

-- the events of the first ones are the first events
pub taken-events : (happened : List EventKind) (n : ℕ) → take n (events_of_kinds happened) ≡ events_of_kinds (take n happened)
taken-events [] zero = refl
taken-events [] (suc n) = refl
taken-events (k ∷ more) zero = refl
taken-events (k ∷ more) (suc n) = ap (λ es. event_of_kind k ∷ es) (taken-events more n)
