-- What is open is aborted by worker 0, who began it.
use Rattle.std.proofs.Common.{◌≡◌, ◌↔◌, ◌∙◌, true, ℕ, ◌≤◌, zero, suc, List, [], ◌∷◌, ◌++◌, map, filter, refl, sym, ap, ap₂, subst, length, take, drop, arith}
use Rattle.std.proofs.lemmas.List.{length-append}
use Rattle.std.proofs.Math.Seq.{drop-append_seam, take-append_seam}
use Rattle.sqlite_trees.specs.declared.store.Store.{Ghosts}
use Rattle.std.specs.Prelude.{slice_index_or}
use Rattle.std.specs.List.{range_with_len}
use Rattle.object_trait.specs.declared.event.Event.{Event}
use Rattle.object_trait.specs.declared.event.EventKind.{EventKind}
use Rattle.object_trait.specs.declared.event.EventKind.TheVariants.{Begin, Op, Busy, None, Commit, Abort, Rollback}
use Rattle.serial_order.specs.History.{summary}
use Rattle.serial_order.specs.After.{beginners}
use Rattle.carried_orders.specs.Orders.{AreStrong}
use Rattle.store.specs.Ends.{closing_but, is_other}
use Rattle.store.specs.Retraces.{ClosingIsTraced, IsTracedHistory}
use Rattle.store_laws.specs.Stored.{Stored}
use Rattle.event_text.specs.EventText.{events_of_kinds}
use Rattle.journal.specs.Journal.{written}
use Rattle.durable_store.specs.declared.durable.Durable.{Durable}
use Rattle.durable_store.specs.Types.{HasTypes}
use Rattle.durable_store.specs.Durable.{IsBehind, IsDurable, kinds}

-- each transaction was begun by worker 0
pub began-zero : (happened : List EventKind) (t : ℕ) → slice_index_or (beginners (events_of_kinds happened)) t 0 ≡ 0
began-zero [] t = refl
began-zero (Begin n ∷ more) zero = refl
began-zero (Begin n ∷ more) (suc t) = began-zero more t
began-zero (Op k n x ∷ more) t = began-zero more t
began-zero (Busy c n x u ∷ more) t = began-zero more t
began-zero (None n x c ∷ more) t = began-zero more t
began-zero (Commit n ∷ more) t = began-zero more t
began-zero (Abort n ∷ more) t = began-zero more t
began-zero (Rollback n m ∷ more) t = began-zero more t

each-by-zero : (who : ℕ → ℕ) → ((t : ℕ) → who t ≡ 0) → (ts : List ℕ)
    → map (λ t. let e : Event = record { worker = who t; kind = Abort t } in e) ts ≡ events_of_kinds (kinds (map (λ t. let e : Event = record { worker = who t; kind = Abort t } in e) ts))
each-by-zero who is [] = refl
each-by-zero who is (t ∷ ts) = ap₂ (λ w more. (let e : Event = record { worker = w; kind = Abort t } in e) ∷ more) (is t) (each-by-zero who is ts)

pub closing-by-zero : (those : List ℕ) (happened : List EventKind) → closing_but those (events_of_kinds happened) ≡ events_of_kinds (kinds (closing_but those (events_of_kinds happened)))
closing-by-zero those happened =
    each-by-zero (λ t. slice_index_or (beginners (events_of_kinds happened)) t 0) (began-zero happened)
    (filter (is_other those (summary (events_of_kinds happened))) (range_with_len 0 (summary (events_of_kinds happened)).begun))

-- the aborts of what was open, but of those, are what the journal hasn't yet
pub aborts-behind : {S : Type 0} (g : Ghosts S) (those : List ℕ) (d : Durable S) (s : Stored) (count : ℕ) → ClosingIsTraced → IsDurable g d → count ≡ length d.store.history → d.store.forgotten ≤ count
    → s ≡ record d.store { history = d.store.history ++ closing_but those d.store.history } → IsBehind g (record { store = s; journal = d.journal; names = d.names; prepared = d.prepared; strong = d.strong }) count
aborts-behind g those d s count closing sound is remembered aborted =
    let more = closing_but those d.store.history in
    let history : s.history ≡ d.store.history ++ more = ap (λ (s : Stored). s.history) aborted in
    let rest : drop count s.history ≡ more = ap₂ drop is history ∙ drop-append_seam d.store.history more in
    let long = ap length history ∙ length-append d.store.history more in
    record {
      journal = sound.journal;
      types = λ clean. subst (HasTypes (written g d.journal)) (sym (ap (λ (s : Stored). s.types) aborted)) (sound.types clean);
      settled = sound.settled;
      limit = ap (λ (s : Stored). s.limits) aborted ∙ sound.limit;
      own = subst IsTracedHistory (sym aborted) (closing those d.store sound.own);
      named = sound.named;
      remembered = subst (λ (s : Stored). s.forgotten ≤ count) (sym aborted) remembered;
      inside = omega (arith, long, is);
      history = λ clean. ap₂ take is history ∙ take-append_seam d.store.history more ∙ sound.history clean;
      by_zero = λ clean. subst (λ es. es ≡ events_of_kinds (kinds es)) (sym rest) (subst (λ H. closing_but those H ≡ events_of_kinds (kinds (closing_but those H))) (sym (sound.history clean)) (closing-by-zero those (written g d.journal).events));
      strong = subst (λ (s : Stored). (d.strong ≡ true) ↔ AreStrong s.types) (sym aborted) sound.strong;
    }
