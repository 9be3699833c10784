-- The journal catches up with the store.
use Rattle.std.proofs.Common.{◌≡◌, ◌∙◌, ℕ, ◌-◌, ◌+◌, ◌≤◌, List, ◌++◌, Result, Ok, Err, refl, sym, ap, ap₂, subst, length, take, drop, arith}
use Rattle.std.specs.Prelude.{OnOk}
use Rattle.std.proofs.lemmas.List.{map-append, length-drop, drop-drop, take_all, take-append-drop}
use Rattle.sqlite_trees.specs.Tree.{Trees}
use Rattle.sqlite_trees.specs.declared.store.Store.{Ghosts}
use Rattle.object_trait.specs.declared.event.Event.{Event}
use Rattle.event_text.specs.EventText.{events_of_kinds}
use Rattle.journal.specs.Contents.{Contents}
use Rattle.journal.specs.Journal.{Clean, IsJournal, IsSettled, durable, may_leave, written}
use Rattle.store_laws.specs.Stored.{Stored}
use Rattle.journal.specs.declared.journal.Journal.{Journal}
use Rattle.durable_store.specs.declared.durable.Durable.{Durable}
use Rattle.durable_store.specs.Types.{HasTypes}
use Rattle.durable_store.specs.Names.{IndexesNames}
use Rattle.durable_store.specs.Held.{ArePrepared}
use Rattle.durable_store.specs.Durable.{IsBehind, IsDurable, kinds, with_all}
use Rattle.durable_store.proofs.GoneOver.{prepared-alike}

-- what is remembered ends with the events after the first n
pub last-ones : (H R : List Event) (f n k : ℕ) → R ≡ drop f H → k ≡ length H → f ≤ n → n ≤ length H
    → take (length R - (length R - (k - n))) (drop (length R - (k - n)) R) ≡ drop n H
last-ones H R f n k is total low high =
    let long : length R ≡ length H - f = ap length is ∙ length-drop f H in
    let place : length R - (k - n) ≡ n - f = omega (arith, long, total, low, high) in
    let back : f + (n - f) ≡ n = omega (arith, low) in
    let rest : drop (length R - (k - n)) R ≡ drop n H = ap₂ drop place is ∙ drop-drop (n - f) f H ∙ ap (λ m. drop m H) back in
    let many : length (drop n H) ≤ length R - (length R - (k - n)) = omega (arith, length-drop n H, long, total, low, high) in
    ap (take (length R - (length R - (k - n)))) rest ∙ take_all (length R - (length R - (k - n))) (drop n H) many

pub caught-up : {S T E : Type 0} (g : Ghosts S) (d : Durable S) (count : ℕ) (new : Journal S) (es : List Event) (r : Result T E) → IsBehind g d count
    → (Clean g d.journal → ArePrepared d.store.history (written g d.journal) d.prepared.items) → es ≡ drop count d.store.history
    → OnOk r (IsJournal g new) → OnOk r (Clean g new → written g new ≡ with_all (written g d.journal) es) → OnOk r (Clean g new → durable g new ≡ durable g d.journal)
    → (Clean g new → Clean g d.journal) → ((db : Trees) → may_leave g new db → may_leave g d.journal db)
    → OnOk r (IsDurable g (record { store = d.store; journal = new; names = d.names; prepared = d.prepared; strong = d.strong }))
caught-up g d count new es (Err e) late are rest kept more same was crash = tt
caught-up g d count new es (Ok x) late are rest kept more same was crash = record {
  journal = kept;
  types = λ clean. subst (λ (c : Contents). HasTypes c d.store.types) (sym (more clean)) (late.types (was clean));
  history = λ clean.
      sym (take-append-drop count d.store.history)
      ∙ ap₂ (λ a b. a ++ b) (late.history (was clean)) (late.by_zero (was clean) ∙ ap (λ es. events_of_kinds (kinds es)) (sym rest))
      ∙ sym (map-append (λ k. let e : Event = record { worker = 0; kind = k } in e) (written g d.journal).events (kinds es))
      ∙ ap (λ (c : Contents). events_of_kinds c.events) (sym (more clean));
  settled = λ clean db left. late.settled (was clean) db (crash db left) ∙ sym (same clean);
  limit = late.limit;
  own = late.own;
  named = λ clean. subst (λ (c : Contents). IndexesNames c.objects d.names) (sym (more clean)) (late.named (was clean));
  prepared = λ clean.
      let c = written g d.journal in
      subst (λ (now : Contents). ArePrepared d.store.history now d.prepared.items) (sym (more clean)) (prepared-alike d.store.history c (with_all c es) d.prepared.items refl (λ n empty. empty) (are (was clean)));
  strong = late.strong;
}

-- its file was read
pub read-again : {S T E : Type 0} (g : Ghosts S) (d : Durable S) (new : Journal S) (r : Result T E) → IsDurable g d → OnOk r (IsJournal g new) → OnOk r (Clean g new → written g new ≡ written g d.journal)
    → OnOk r (Clean g new → durable g new ≡ durable g d.journal) → (Clean g new → Clean g d.journal) → ((db : Trees) → may_leave g new db → may_leave g d.journal db)
    → OnOk r (IsDurable g (record { store = d.store; journal = new; names = d.names; prepared = d.prepared; strong = d.strong }))
read-again g d new (Err e) sound kept is same was crash = tt
read-again g d new (Ok x) sound kept is same was crash = record {
  journal = kept;
  history = λ clean. sound.history (was clean) ∙ ap (λ (c : Contents). events_of_kinds c.events) (sym (is clean));
  types = λ clean. subst (λ (c : Contents). HasTypes c d.store.types) (sym (is clean)) (sound.types (was clean));
  settled = λ clean db left. sound.settled (was clean) db (crash db left) ∙ sym (same clean);
  limit = sound.limit;
  own = sound.own;
  named = λ clean. subst (λ (c : Contents). IndexesNames c.objects d.names) (sym (is clean)) (sound.named (was clean));
  prepared = λ clean. subst (λ (c : Contents). ArePrepared d.store.history c d.prepared.items) (sym (is clean)) (sound.prepared (was clean));
  strong = sound.strong;
}

-- what is written was made durable, and the store lets go of its events
pub settled : {S : Type 0} (g : Ghosts S) (d : Durable S) (s : Stored) (new : Journal S) (n : ℕ) → IsDurable g d → s ≡ record d.store { forgotten = n } → IsJournal g new
    → (Clean g new → written g new ≡ written g d.journal) → (Clean g new → IsSettled g new) → (Clean g new → Clean g d.journal)
    → IsDurable g (record { store = s; journal = new; names = d.names; prepared = d.prepared; strong = d.strong })
settled {S = S} g d s new n sound lets kept is is-settled was =
    let settled_with : Stored → Durable S = λ t. record { store = t; journal = new; names = d.names; prepared = d.prepared; strong = d.strong } in
    subst (λ t. IsDurable g (settled_with t)) (sym lets) (record {
      journal = kept;
      history = λ clean. sound.history (was clean) ∙ ap (λ (c : Contents). events_of_kinds c.events) (sym (is clean));
      types = λ clean. subst (λ (c : Contents). HasTypes c d.store.types) (sym (is clean)) (sound.types (was clean));
      settled = is-settled;
      limit = sound.limit;
      own = sound.own;
      named = λ clean. subst (λ (c : Contents). IndexesNames c.objects d.names) (sym (is clean)) (sound.named (was clean));
      prepared = λ clean. subst (λ (c : Contents). ArePrepared d.store.history c d.prepared.items) (sym (is clean)) (sound.prepared (was clean));
      strong = sound.strong;
    })
