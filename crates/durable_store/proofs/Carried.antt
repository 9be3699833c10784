-- A store into whose new epoch open transactions are carried is ahead of its journal too.
use Rattle.std.proofs.Common.{◌≡◌, ◌↔◌, ◌∙◌, ℕ, Bool, true, List, [], ◌++◌, map, length, Some, slice_get, sym, ap, subst, inl, inr, append-nil}
use Rattle.std.specs.declared.alloc.Global.{Global}
use Rattle.std.specs.declared.vec.Vec.{Vec}
use Rattle.std.specs.List.{AllByRecursion}
use Rattle.std.specs.Option.{option_map}
use Rattle.std.proofs.lemmas.Option.{slice_get-map}
use Rattle.sqlite_trees.specs.declared.store.Store.{Ghosts}
use Rattle.object_trait.specs.Object.{object_of}
use Rattle.object_trait.specs.declared.event.Event.{Event}
use Rattle.table_checker.specs.At.{AtIsStrong, IsInside}
use Rattle.table_checker.specs.Checked.{Checked}
use Rattle.serial_order.specs.Epochs.{types_at}
use Rattle.serial_order.specs.Operations.{is_among}
use Rattle.serial_order.proofs.EpochTypes.{length-types_at}
use Rattle.carried_runs.specs.Carried.{carried_by}
use Rattle.carried_orders.specs.Orders.{AreStrong}
use Rattle.store.specs.Retraces.{IsTracedHistory}
use Rattle.store_laws.specs.Stored.{Stored, types_of}
use Rattle.objects.specs.Object.{meaning_of}
use Rattle.objects.specs.declared.object.Object.{Object}
use Rattle.event_text.specs.EventText.{events_of_kinds}
use Rattle.journal.specs.declared.prepared_row.Prepared.{Prepared}
use Rattle.journal.specs.Contents.{Contents, from_states}
use Rattle.journal.specs.Journal.{Clean, written}
use Rattle.durable_store.specs.declared.durable.Durable.{Durable}
use Rattle.durable_store.specs.Types.{HasTypes}
use Rattle.durable_store.specs.Durable.{IsDurable, kinds}
use Rattle.durable_store.specs.Epochs.{IsAhead, LeavesAhead, LeavesEpoch, firsts}
use Rattle.durable_store.specs.Held.{ArePrepared, moved_among}
use Rattle.durable_store.specs.NextStore.{BeginsNext, GoOver}
use Rattle.durable_store.proofs.Ahead.{has-renewed}
use Rattle.durable_store.proofs.GoneOver.{gone-over}
use Rattle.durable_store.proofs.NextStores.{BeginsBy, begins-by, carried-by-zero, goes, prepared-go, worker-zero, worker_of}
use Rattle.durable_store.proofs.Stepped.{kinds-back}
use Rattle.durable_store.proofs.StrongOver.{strong-renewed}

-- ---- what goes over

-- a durable store goes on as this one, in which these were carried
pub record IsCarried {S : Type 0} (g : Ghosts S) (d : Durable S) (those : List ℕ) (added : List Checked) (new : Stored) : Type 0 where
  pub worker : ℕ → ℕ
  pub begins : BeginsBy d.store worker those added new
  pub by_zero : Clean g d.journal → (t : ℕ) → worker t ≡ 0
  pub go : Clean g d.journal → AllByRecursion (λ (p : Prepared). is_among those p.number ≡ true) d.prepared.items

-- its history is of worker 0
history-by-zero : {S : Type 0} (g : Ghosts S) (d : Durable S) → IsDurable g d → Clean g d.journal → d.store.history ≡ events_of_kinds (kinds d.store.history)
history-by-zero g d sound clean =
    let c = written g d.journal in
    sound.history clean ∙ ap events_of_kinds (sym (kinds-back c.events) ∙ ap kinds (sym (sound.history clean)))

pub is-carried : {S : Type 0} (g : Ghosts S) (d : Durable S) (those : List ℕ) (added : List Checked) (new : Stored) → IsDurable g d → GoOver d.strong d.store.history d.prepared.items those
    → BeginsNext d.strong d.store those added new → IsCarried g d those added new
is-carried g d those added new sound going begins = record {
  worker = worker_of d.strong d.store.history;
  begins = begins-by d.strong d.store d.prepared.items those added new going begins;
  by_zero = λ clean. worker-zero d.strong d.store.history (history-by-zero g d sound clean);
  go = λ clean. prepared-go d.strong d.store.history (written g d.journal) d.prepared.items those (sound.prepared clean) going;
}

-- the types may begin at the states that are kept
kept-inside : (old : Stored) (worker : ℕ → ℕ) (those : List ℕ) (added : List Checked) (new : Stored) (begins : BeginsBy old worker those added new) (x : ℕ) (c : Checked) (s : ℕ) → slice_get old.types x ≡ Some c
    → slice_get begins.kept x ≡ Some s → IsInside c s
kept-inside old worker those added new begins x c s there kept = (begins.epoch.kept x (object_of c) s (slice_get-map object_of old.types x ∙ ap (option_map object_of) there) kept).inside

-- so they are those of the file at these states
pub has-kept : (c : Contents) (old : Stored) (worker : ℕ → ℕ) (those : List ℕ) (added : List Checked) (new : Stored) (begins : BeginsBy old worker those added new) → HasTypes c old.types
    → HasTypes (from_states c (firsts (types_at old.types begins.kept))) (types_at old.types begins.kept)
has-kept c old worker those added new begins its = has-renewed c old.types begins.kept its begins.epoch.as_many (kept-inside old worker those added new begins)

-- its first events are of worker 0
pub over-by-zero : {S : Type 0} (g : Ghosts S) (d : Durable S) (those : List ℕ) (added : List Checked) (new : Stored) → IsCarried g d those added new → Clean g d.journal → new.history ≡ events_of_kinds (kinds new.history)
over-by-zero g d those added new carried clean =
    subst (λ H. H ≡ events_of_kinds (kinds H)) (sym (ap (λ (s : Stored). s.history) carried.begins.is)) (carried-by-zero carried.worker (carried.by_zero clean) those carried.begins.order)

-- what is prepared is so there
pub prepared-over : {S : Type 0} (g : Ghosts S) (d : Durable S) (those : List ℕ) (added : List Checked) (new : Stored) (ps : List Prepared) → IsDurable g d → IsCarried g d those added new
    → ps ≡ map (moved_among those) d.prepared.items → Clean g d.journal → ArePrepared new.history (record (written g d.journal) { prepared = ps }) ps
prepared-over g d those added new ps sound carried are clean =
    let c = written g d.journal in
    let K = carried_by carried.worker those carried.begins.order in
    let over = gone-over carried.worker those carried.begins.order d.store.history c d.prepared.items (sound.prepared clean) (carried.go clean) in
    subst (λ H. ArePrepared H (record c { prepared = ps }) ps) (sym (ap (λ (s : Stored). s.history) carried.begins.is))
    (subst (λ (rs : List Prepared). ArePrepared K (record c { prepared = rs }) rs) (sym are) over)

-- ---- it is ahead

pub carried-ahead : {S : Type 0} (g : Ghosts S) (d : Durable S) (those : List ℕ) (new : Stored) (ps : Vec Prepared Global) → AtIsStrong → IsDurable g d → IsCarried g d those [] new
    → ps.items ≡ map (moved_among those) d.prepared.items → IsTracedHistory new → IsAhead g (record { store = new; journal = d.journal; names = d.names; prepared = ps; strong = d.strong })
carried-ahead g d those new ps at sound carried are traced =
    let begins = carried.begins in
    let now = types_at d.store.types begins.kept in
    let behind : new.types ≡ now ++ [] = ap (λ (s : Stored). s.types) begins.is in
    let types : new.types ≡ now = behind ∙ append-nil now in
    record {
      journal = sound.journal;
      settled = sound.settled;
      limit = ap (λ (s : Stored). s.limits) begins.is ∙ sound.limit;
      remembered = ap (λ (s : Stored). s.forgotten) begins.is;
      by_zero = over-by-zero g d those [] new carried;
      own = traced;
      strong = subst (λ ts. (d.strong ≡ true) ↔ AreStrong ts) (sym behind) (strong-renewed at d.store.types begins.kept d.strong begins.epoch.as_many sound.strong);
      named = sound.named;
      as_many = λ clean. ap length types ∙ length-types_at d.store.types begins.kept begins.epoch.as_many ∙ (sound.types clean).as_many ∙ sym (sound.types clean).as_many_states;
      types = λ clean.
          subst (λ ts. HasTypes (from_states (written g d.journal) (firsts ts)) ts) (sym types)
          (has-kept (written g d.journal) d.store carried.worker those [] new begins (sound.types clean));
      prepared = prepared-over g d those [] new ps.items sound carried are;
    }

-- a durable store whose store comes back
pub comes-back : {S : Type 0} (g : Ghosts S) (d : Durable S) (s : Stored) → IsDurable g d → s ≡ d.store → IsDurable g (record { store = s; journal = d.journal; names = d.names; prepared = d.prepared; strong = d.strong })
comes-back {S = S} g d s sound back =
    let with_store : Stored → Durable S = λ t. record { store = t; journal = d.journal; names = d.names; prepared = d.prepared; strong = d.strong } in
    subst (λ t. IsDurable g (with_store t)) (sym back) sound

-- what goes over, by the list that it was made of
pub go-in : (strong : Bool) (H : List Event) (ps given : List Prepared) (those : List ℕ) → given ≡ ps → GoOver strong H given those → GoOver strong H ps those
go-in strong H ps given those same going = subst (λ (rs : List Prepared). GoOver strong H rs those) same going

-- where nothing is added
pub begins-none : (strong : Bool) (old : Stored) (those given : List ℕ) (objects : List Object) (new : Stored) → given ≡ those → objects ≡ [] → BeginsNext strong old given (types_of (map meaning_of objects)) new
    → BeginsNext strong old those [] new
begins-none strong old those given objects new same none begins =
    subst (λ ns. BeginsNext strong old ns [] new) same (subst (λ (os : List Object). BeginsNext strong old given (types_of (map meaning_of os)) new) none begins)

-- what a crash leaves
pub leaves-over : {S : Type 0} (g : Ghosts S) (d : Durable S) (those : List ℕ) (store : Stored) (ps : Vec Prepared Global) (new : Durable S) → IsDurable g d → GoOver d.strong d.store.history d.prepared.items those
    → BeginsNext d.strong d.store those [] store → ps.items ≡ map (moved_among those) d.prepared.items
    → LeavesAhead g (record { store = store; journal = d.journal; names = d.names; prepared = ps; strong = d.strong }) new → LeavesEpoch g d new
leaves-over g d those store ps new sound going begins are leaves = λ db left. elim (leaves db left) [
  | inl is ↦ inl (is.0, is.1, (record store { forgotten = length store.history }, ps.items, goes d.strong [] d.store d.prepared.items those store ps.items sound.strong going begins are, is.2), is.3)
  | inr before ↦ inr before
]
