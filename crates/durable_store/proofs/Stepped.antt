-- A command of the store makes an event at most, which the journal hasn't yet.
use Rattle.std.proofs.Common.{◌≡◌, ◌↔◌, ◌∙◌, true, ℕ, ◌≤◌, List, [], ◌∷◌, ◌++◌, if◌then◌else◌, length, take, drop, Option, Some, None, Result, is_some, inl, inr, refl, sym, ap, ap₂, subst, append-nil, arith}
use Rattle.std.proofs.lemmas.List.{length-append}
use Rattle.std.proofs.Math.Seq.{drop-append_seam, take-append_seam}
use Rattle.sqlite_trees.specs.declared.store.Store.{Ghosts}
use Rattle.object_trait.specs.declared.event.Event.{Event}
use Rattle.object_trait.specs.declared.event.EventKind.{EventKind}
use Rattle.serial_order.specs.History.{summary}
use Rattle.serial_order.specs.Replay.{appended, event_of}
use Rattle.serial_order.specs.declared.command.Command.{Command}
use Rattle.serial_order.specs.declared.refusal.Refusal.{Refusal}
use Rattle.carried_orders.specs.Orders.{AreStrong}
use Rattle.store_laws.specs.Stored.{MayStep, Steps, Stored, objects, refusal_of}
use Rattle.store.specs.Retraces.{IsTracedHistory, StepsAreTraced}
use Rattle.event_text.specs.EventText.{events_of_kinds}
use Rattle.journal.specs.Journal.{written}
use Rattle.durable_store.specs.declared.durable.Durable.{Durable}
use Rattle.durable_store.specs.Types.{HasTypes}
use Rattle.durable_store.specs.Durable.{IsBehind, IsDurable, kinds}

-- what happened, back from the events
pub kinds-back : (happened : List EventKind) → kinds (events_of_kinds happened) ≡ happened
kinds-back [] = refl
kinds-back (k ∷ more) = ap (λ ks. k ∷ ks) (kinds-back more)

-- what a command appends is of worker 0
appends : (H : List Event) (r : Option Refusal) (k : Option EventKind) → (more : List EventKind) × ((if is_some r then H else appended H 0 k) ≡ H ++ events_of_kinds more)
appends H (Some why) k = ([], sym (append-nil H))
appends H None None = ([], sym (append-nil H))
appends H None (Some kind) = (kind ∷ [], refl)

-- a store that has more events than the journal
pub behind-more : {S : Type 0} (g : Ghosts S) (d : Durable S) (s : Stored) (count : ℕ) (more : List EventKind) → IsDurable g d → count ≡ length d.store.history → d.store.forgotten ≤ count
    → s ≡ record d.store { history = d.store.history ++ events_of_kinds more } → IsTracedHistory s → IsBehind g (record { store = s; journal = d.journal; names = d.names; prepared = d.prepared; strong = d.strong }) count
behind-more g d s count more sound is remembered now own =
    let events = events_of_kinds more in
    let history : s.history ≡ d.store.history ++ events = ap (λ (s : Stored). s.history) now in
    let rest : drop count s.history ≡ events = ap₂ drop is history ∙ drop-append_seam d.store.history events in
    let long = ap length history ∙ length-append d.store.history events in
    record {
      journal = sound.journal;
      types = λ clean. subst (HasTypes (written g d.journal)) (sym (ap (λ (s : Stored). s.types) now)) (sound.types clean);
      settled = sound.settled;
      limit = ap (λ (s : Stored). s.limits) now ∙ sound.limit;
      own = own;
      named = sound.named;
      remembered = subst (λ (s : Stored). s.forgotten ≤ count) (sym now) remembered;
      inside = omega (arith, long, is);
      history = λ clean. ap₂ take is history ∙ take-append_seam d.store.history events ∙ sound.history clean;
      by_zero = λ clean. rest ∙ ap events_of_kinds (sym (kinds-back more) ∙ ap kinds (sym rest));
      strong = subst (λ (s : Stored). (d.strong ≡ true) ↔ AreStrong s.types) (sym now) sound.strong;
    }

-- a store that did a command
pub done-behind : {S T : Type 0} (g : Ghosts S) (d : Durable S) (command : Command) (r : Result T Refusal) (s : Stored) (count : ℕ) → StepsAreTraced → IsDurable g d → count ≡ length d.store.history
    → d.store.forgotten ≤ count → Steps d.store 0 command r s → IsBehind g (record { store = s; journal = d.journal; names = d.names; prepared = d.prepared; strong = d.strong }) count
done-behind g d command r s count steps sound is remembered step =
    let it = appends d.store.history (refusal_of d.store command) (event_of (objects d.store) (summary d.store.history) command) in
    behind-more g d s count it.0 sound is remembered (step.1 ∙ ap (λ H. record d.store { history = H }) it.1)
    (subst IsTracedHistory (sym (step.1)) (steps d.store 0 command sound.own))

-- or may have done it, where memory wasn't refused
pub step-behind : {S T : Type 0} (g : Ghosts S) (d : Durable S) (command : Command) (r : Result T Refusal) (s : Stored) (count : ℕ) → StepsAreTraced → IsDurable g d → count ≡ length d.store.history
    → d.store.forgotten ≤ count → MayStep d.store 0 command r s → IsBehind g (record { store = s; journal = d.journal; names = d.names; prepared = d.prepared; strong = d.strong }) count
step-behind g d command r s count steps sound is remembered may = elim may [
  | inl step ↦ done-behind g d command r s count steps sound is remembered step
  | inr refused ↦
      behind-more g d s count [] sound is remembered (refused.2 ∙ ap (λ H. record d.store { history = H }) (sym (append-nil d.store.history)))
      (subst IsTracedHistory (sym (refused.2)) sound.own)
]

-- whoever is prepared
pub behind-alike : {S : Type 0} (g : Ghosts S) (d now : Durable S) (count : ℕ) → IsBehind g (record { store = now.store; journal = now.journal; names = now.names; prepared = d.prepared; strong = now.strong }) count → IsBehind g now count
behind-alike g d now count late = record {
  journal = late.journal;
  types = late.types;
  settled = late.settled;
  limit = late.limit;
  own = late.own;
  named = late.named;
  remembered = late.remembered;
  inside = late.inside;
  history = late.history;
  by_zero = late.by_zero;
  strong = late.strong;
}
