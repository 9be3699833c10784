-- A new epoch is begun in the file, and the store's first events of it are what the journal hasn't yet.
use Rattle.std.proofs.Common.{◌≡◌, ◌↔◌, ◌∙◌, ℕ, ◌+◌, suc, true, None, List, [], ◌∷◌, ◌++◌, take, drop, refl, sym, ap, subst, arith}
use Rattle.sqlite_trees.specs.declared.store.Store.{Ghosts}
use Rattle.sqlite_trees.specs.Tree.{Trees}
use Rattle.object_trait.specs.declared.event.Event.{Event}
use Rattle.store_text.specs.declared.line.ObjectLine.{ObjectLine}
use Rattle.event_text.specs.EventText.{events_of_kinds}
use Rattle.journal.specs.declared.header.Header.{Header}
use Rattle.journal.specs.declared.prepared_row.Prepared.{Prepared}
use Rattle.journal.specs.declared.state_row.FirstState.{FirstState}
use Rattle.journal.specs.declared.journal.Journal.{Journal}
use Rattle.journal.specs.Contents.{Contents, extended, from_states, in_life}
use Rattle.journal.specs.Journal.{Clean, IsJournal, IsSettled, durable, may_leave, written}
use Rattle.carried_orders.specs.Orders.{AreStrong}
use Rattle.store.specs.Retraces.{IsTracedHistory}
use Rattle.durable_store.specs.declared.durable.Durable.{Durable}
use Rattle.durable_store.specs.Types.{HasTypes}
use Rattle.durable_store.specs.Names.{IndexesNames}
use Rattle.durable_store.specs.Durable.{IsBehind, kinds, with_all}
use Rattle.durable_store.specs.Epochs.{IsAhead, firsts, with_all_prepared}
use Rattle.durable_store.specs.FileLimits.{file_limits}
use Rattle.durable_store.specs.GrowthParts.{IsAheadBy}
use Rattle.durable_store.specs.Held.{ArePrepared}
use Rattle.durable_store.specs.Recovered.{next_life}
use Rattle.durable_store.proofs.GoneOver.{prepared-alike}

take-none : (es : List Event) → take 0 es ≡ []
take-none [] = refl
take-none (e ∷ es) = refl

drop-none : (es : List Event) → drop 0 es ≡ es
drop-none [] = refl
drop-none (e ∷ es) = refl

-- ---- the epoch is begun in the file

-- a life that is one more than that of the one header is the next one
pub next-is : (c : Contents) (header : Header) (life : ℕ) → life ≡ header.life + 1 → c.headers ≡ header ∷ [] → life ≡ next_life c.headers
next-is c header life raised last = raised ∙ (let more : header.life + 1 ≡ suc header.life = omega arith in more) ∙ sym (ap next_life last)

pub renewed-is : (c now : Contents) (states : List FirstState) (header : Header) (life : ℕ) (d : List FirstState) → now ≡ in_life (from_states c states) life → states ≡ d
    → life ≡ header.life + 1 → c.headers ≡ header ∷ [] → now ≡ in_life (from_states c d) (next_life c.headers)
renewed-is c now states header life d is are raised last =
    is ∙ ap (λ ss. in_life (from_states c ss) life) are ∙ ap (λ n. in_life (from_states c d) n) (next-is c header life raised last)

pub grown-is : (c now : Contents) (texts : List (List ℕ)) (lines : List ObjectLine) (states : List FirstState) (header : Header) (life : ℕ) (d : List FirstState)
    → now ≡ in_life (extended c texts lines states) life → states ≡ d → life ≡ header.life + 1 → c.headers ≡ header ∷ [] → now ≡ in_life (extended c texts lines d) (next_life c.headers)
grown-is c now texts lines states header life d is are raised last =
    is ∙ ap (λ ss. in_life (extended c texts lines ss) life) are ∙ ap (λ n. in_life (extended c texts lines d) n) (next-is c header life raised last)

-- where the file says this now, which has no event
first-behind : {S : Type 0} (g : Ghosts S) (d : Durable S) (new : Journal S) (c : Contents) → c.events ≡ [] → (Clean g d.journal → IsSettled g d.journal) → d.store.limits ≡ file_limits → d.store.forgotten ≡ 0
    → (Clean g d.journal → d.store.history ≡ events_of_kinds (kinds d.store.history)) → IsTracedHistory d.store → (d.strong ≡ true) ↔ AreStrong d.store.types → (Clean g d.journal → IndexesNames c.objects d.names) → (Clean g d.journal → HasTypes c d.store.types)
    → IsJournal g new → (Clean g new → written g new ≡ c) → (Clean g new → durable g new ≡ durable g d.journal) → (Clean g new → Clean g d.journal) → ((db : Trees) → may_leave g new db → may_leave g d.journal db)
    → IsBehind g (record { store = d.store; journal = new; names = d.names; prepared = d.prepared; strong = d.strong }) 0
first-behind g d new c none settled limit remembered by_zero own strong named types kept is same was crash = record {
  journal = kept;
  types = λ clean. subst (λ (c : Contents). HasTypes c d.store.types) (sym (is clean)) (types (was clean));
  settled = λ clean db left. settled (was clean) db (crash db left) ∙ sym (same clean);
  limit = limit;
  own = own;
  named = λ clean. subst (λ (c : Contents). IndexesNames c.objects d.names) (sym (is clean)) (named (was clean));
  remembered = omega (arith, remembered);
  inside = omega arith;
  history = λ clean. take-none d.store.history ∙ ap events_of_kinds (sym none) ∙ ap (λ (c : Contents). events_of_kinds c.events) (sym (is clean));
  by_zero = λ clean. subst (λ H. H ≡ events_of_kinds (kinds H)) (sym (drop-none d.store.history)) (by_zero (was clean));
  strong = strong;
}

-- with the new epoch in the file
pub begun-behind : {S : Type 0} (g : Ghosts S) (d : Durable S) (new : Journal S) (states : List FirstState) (life : ℕ) → IsAhead g d → states ≡ firsts d.store.types
    → IsJournal g new → (Clean g new → written g new ≡ in_life (from_states (written g d.journal) states) life) → (Clean g new → durable g new ≡ durable g d.journal)
    → (Clean g new → Clean g d.journal) → ((db : Trees) → may_leave g new db → may_leave g d.journal db)
    → IsBehind g (record { store = d.store; journal = new; names = d.names; prepared = d.prepared; strong = d.strong }) 0
begun-behind g d new states life sound are kept is same was crash =
    let c = written g d.journal in
    first-behind g d new (in_life (from_states c (firsts d.store.types)) life) refl sound.settled sound.limit sound.remembered sound.by_zero sound.own sound.strong sound.named sound.types
    kept (λ clean. is clean ∙ ap (λ ss. in_life (from_states c ss) life) are) same was crash

-- and with that of more objects
pub grown-behind : {S : Type 0} (g : Ghosts S) (d : Durable S) (new : Journal S) (texts : List (List ℕ)) (lines : List ObjectLine) (states : List FirstState) (life : ℕ) → IsAheadBy g texts lines d → states ≡ firsts d.store.types
    → IsJournal g new → (Clean g new → written g new ≡ in_life (extended (written g d.journal) texts lines states) life) → (Clean g new → durable g new ≡ durable g d.journal)
    → (Clean g new → Clean g d.journal) → ((db : Trees) → may_leave g new db → may_leave g d.journal db)
    → IsBehind g (record { store = d.store; journal = new; names = d.names; prepared = d.prepared; strong = d.strong }) 0
grown-behind g d new texts lines states life sound are kept is same was crash =
    let c = written g d.journal in
    first-behind g d new (in_life (extended c texts lines (firsts d.store.types)) life) refl sound.settled sound.limit sound.remembered sound.by_zero sound.own sound.strong sound.named sound.types
    kept (λ clean. is clean ∙ ap (λ ss. in_life (extended c texts lines ss) life) are) same was crash

-- what is prepared is still to be written
pub first-prepared : (H K : List Event) (c begun d : Contents) (ps qs : List Prepared) → K ≡ H → qs ≡ ps → begun ≡ d → d.prepared ≡ [] → ((n : ℕ) → c.outcomes.at n ≡ None → d.outcomes.at n ≡ None) → ArePrepared H (record c { prepared = ps }) ps
    → ArePrepared K (with_all_prepared begun qs) qs
first-prepared H K c begun d ps qs history same is none free are =
    subst (λ K. ArePrepared K (with_all_prepared begun qs) qs) (sym history)
    (subst (λ (rs : List Prepared). ArePrepared H (with_all_prepared begun rs) rs) (sym same)
    (prepared-alike H (record c { prepared = ps }) (with_all_prepared begun ps) ps (ap (λ rs. rs ++ ps) (sym none) ∙ ap (λ (b : Contents). b.prepared ++ ps) (sym is)) (λ n empty. subst (λ (b : Contents). b.outcomes.at n ≡ None) (sym is) (free n empty)) are))

-- ---- the rest is written

-- with prepared transactions more
pub prepared-behind : {S : Type 0} (g : Ghosts S) (d : Durable S) (count : ℕ) (new : Journal S) (those : List Prepared) → IsBehind g d count → IsJournal g new
    → (Clean g new → written g new ≡ with_all_prepared (written g d.journal) those) → (Clean g new → durable g new ≡ durable g d.journal)
    → (Clean g new → Clean g d.journal) → ((db : Trees) → may_leave g new db → may_leave g d.journal db)
    → IsBehind g (record { store = d.store; journal = new; names = d.names; prepared = d.prepared; strong = d.strong }) count
prepared-behind g d count new those late kept is same was crash = record {
  journal = kept;
  types = λ clean. subst (λ (c : Contents). HasTypes c d.store.types) (sym (is clean)) (late.types (was clean));
  settled = λ clean db left. late.settled (was clean) db (crash db left) ∙ sym (same clean);
  limit = late.limit;
  own = late.own;
  named = λ clean. subst (λ (c : Contents). IndexesNames c.objects d.names) (sym (is clean)) (late.named (was clean));
  remembered = late.remembered;
  inside = late.inside;
  history = λ clean. late.history (was clean) ∙ ap (λ (c : Contents). events_of_kinds c.events) (sym (is clean));
  by_zero = λ clean. late.by_zero (was clean);
  strong = late.strong;
}

-- what is written then
pub epoch-written : (begun prepared since : Contents) (H : List Event) (ps : List Prepared) → prepared ≡ with_all_prepared begun ps → since ≡ with_all prepared (drop 0 H)
    → since ≡ with_all (with_all_prepared begun ps) H
epoch-written begun prepared since H ps rows events = events ∙ ap (λ p. with_all p (drop 0 H)) rows ∙ ap (λ es. with_all (with_all_prepared begun ps) es) (drop-none H)

-- by what the epoch began with
pub first-written : (begun d : Contents) (H K : List Event) (ps qs : List Prepared) → begun ≡ d → K ≡ H → qs ≡ ps → with_all (with_all_prepared begun qs) K ≡ with_all (with_all_prepared d ps) H
first-written begun d H K ps qs is history same =
    ap (λ b. with_all (with_all_prepared b qs) K) is ∙ ap (λ rs. with_all (with_all_prepared d rs) K) same ∙ ap (λ es. with_all (with_all_prepared d ps) es) history
