-- An epoch is closed: what is open is aborted where it doesn't go over, and its history is kept.
use Rattle.std.proofs.Common.{◌≡◌, ◌∙◌, inl, inr, ℕ, ◌≤◌, Bool, true, false, Option, None, Some, Result, Ok, Err, List, [], ◌∷◌, length, take, drop, sym, ap, ap₂, subst, arith}
use Rattle.std.proofs.Math.Seq.{drop-append_seam}
use Rattle.std.proofs.lemmas.List.{append-nil, drop_all, length-map, take_all}
use Rattle.std.specs.Prelude.{OnOk}
use Rattle.sqlite_trees.specs.declared.store.Store.{Ghosts}
use Rattle.object_trait.specs.declared.event.Event.{Event}
use Rattle.object_trait.specs.declared.event.EventKind.{EventKind}
use Rattle.store_text.specs.declared.line.ObjectLine.{ObjectLine}
use Rattle.event_text.specs.EventText.{events_of_kinds}
use Rattle.history_text.specs.Canonical.{canonical_text}
use Rattle.store_laws.specs.Stored.{Stored}
use Rattle.journal.specs.declared.prepared_row.Prepared.{Prepared}
use Rattle.journal.specs.declared.header.Header.{Header}
use Rattle.journal.specs.Contents.{Contents, contents_of}
use Rattle.journal.specs.Journal.{Clean, IsJournal, ShowsCommit, durable, written}
use Rattle.durable_store.specs.declared.durable.Durable.{Durable}
use Rattle.durable_store.specs.Durable.{IsDurable, OutcomesStay, WritesSince, with_all}
use Rattle.durable_store.specs.Epochs.{LeavesEpoch}
use Rattle.durable_store.specs.Growth.{LeavesGrowth}
use Rattle.durable_store.specs.Recovered.{IsStoreOf}
use Rattle.serving.specs.Archives.{KeepsAtLeast, KeepsEpochs, KeepsText, KeptHistory, text_of_epoch, with_kept}
use Rattle.std.specs.declared.vec.Vec.{Vec}
use Rattle.std.specs.declared.alloc.Global.{Global}
use Rattle.serving.specs.declared.extension.Extension.{Extension}
use Rattle.serving.specs.EpochEnd.{EndsInEpoch, LeavesClosed, LeavesEnd, LeavesNext}
use Rattle.serving.specs.NextEpoch.{IsNextFile}
use Rattle.serving.specs.Server.{KeepsAll}
use Rattle.serving.specs.Epochs.{LeavesEpochs, Reaches, closed_by, closings}
use Rattle.serving.specs.Follows.{HasMore, LeavesMore, LeavesWritten, WritesMore}
use Rattle.serving.specs.Requests.{LetsGo}
use Rattle.serving.proofs.MoreEvents.{leaves-then, outcomes-more, writes-more, written-more}
use Rattle.serving.proofs.NextEpochs.{next-file-as}
use Rattle.serving.proofs.LaterEpochs.{is-store-of, left-more, left-then, writes-one}

-- ---- the text of an epoch

-- it is kept under what the file says of itself
pub text-kept : {S : Type 0} (g : Ghosts S) (mid new : Durable S) (kept kept_now : Option (List KeptHistory)) (header : Header) (text : List ℕ) → IsJournal g mid.journal → ShowsCommit g mid.journal
    → (Clean g new.journal → Clean g mid.journal) → (Clean g new.journal → written g new.journal ≡ written g mid.journal) → header ≡ mid.journal.header
    → (Clean g new.journal → text ≡ text_of_epoch (written g mid.journal)) → KeepsText kept kept_now header text → Clean g new.journal → KeepsEpochs kept kept_now (written g new.journal ∷ [])
text-kept g mid new kept kept_now header text journal shows clean same is_header is_text keeps now =
    let headers : (written g mid.journal).headers ≡ mid.journal.header ∷ [] = (journal (clean now)).0.header_is (shows (clean now)).0.sound in
    let its : header ∷ [] ≡ (written g new.journal).headers = ap (λ h. h ∷ []) is_header ∙ sym (ap (λ (c : Contents). c.headers) (same now) ∙ headers) in
    let its_text : text ≡ text_of_epoch (written g new.journal) = is_text now ∙ sym (ap text_of_epoch (same now)) in
    keeps ∙ ap₂ (λ hs t. with_kept kept (record { headers = hs; text = t } ∷ [])) its its_text

-- ---- crashes

-- what was written was settled, and a text may be kept
pub left-kept : {S : Type 0} (g : Ghosts S) (old mid new : Durable S) (kept kept_now : Option (List KeptHistory))
    → LeavesWritten g old mid → OutcomesStay g mid new
    → KeepsAtLeast kept kept_now [] → LeavesEpochs g old new kept kept_now
left-kept g old mid new kept kept_now crash stay keeps db left = elim (crash db (stay db left)) [
  | inl it ↦ inl (it.0, it.1, ([], subst (λ c. Reaches (written g old.journal) [] c) (sym it.2) Reaches.none, keeps))
  | inr before ↦ inr (before, keeps)
]

-- events were written, which is all
pub left-written : {S : Type 0} (g : Ghosts S) (old new : Durable S) (kept : Option (List KeptHistory)) → OutcomesStay g old new → LeavesEpochs g old new kept kept
left-written g old new kept stay = left-more g old new kept (outcomes-more g old new stay)

-- events were written, and then the epoch was kept
pub left-closed : {S : Type 0} (g : Ghosts S) (old mid new : Durable S) (kept kept_now : Option (List KeptHistory)) → (Clean g mid.journal → Clean g old.journal) → WritesSince g old mid → OutcomesStay g old mid
    → LeavesEpochs g mid new kept kept_now → LeavesEpochs g old new kept kept_now
left-closed g old mid new kept kept_now clean since stay crash =
    left-then g old mid new kept kept kept_now clean (writes-one g old mid kept (writes-more g old mid since)) (left-written g old mid kept stay) crash

-- ---- crashes, of the file alone

pub written-stays : {S : Type 0} (g : Ghosts S) (old mid new : Durable S) → LeavesWritten g old mid → OutcomesStay g mid new → LeavesWritten g old new
written-stays g old mid new crash stay db left = crash db (stay db left)

-- what doesn't go over is aborted, and then all of it may become durable
pub closed-left : {S : Type 0} (g : Ghosts S) (goes : Bool) (old mid new : Durable S) → mid.store ≡ closed_by goes old.prepared.items old.store → mid.journal.header ≡ old.journal.header → IsDurable g mid → (Clean g mid.journal → Clean g old.journal)
    → KeepsAll g old mid → OutcomesStay g old mid → LeavesWritten g mid new → LeavesClosed g goes old new
closed-left g goes old mid new aborts header sound clean keeps stay crash db left = elim (crash db left) [
  | inl it ↦
      let store : IsStoreOf (contents_of db) mid.store = subst (λ (c : Contents). IsStoreOf c mid.store) (sym it.2) (is-store-of g mid sound it.0) in
      inl (clean it.0, it.1, (subst (λ (s : Stored). IsStoreOf (contents_of db) s) aborts store, it.3 ∙ ap (λ (h : Header). h ∷ []) header, ap (λ (c : Contents). c.outcomes) it.2 ∙ (keeps it.0).0, ap (λ (c : Contents). c.prepared) it.2 ∙ (keeps it.0).1))
  | inr before ↦ inr (stay db before)
]

pub closed-end : {S : Type 0} (g : Ghosts S) (goes : Bool) (waits : Option Extension) (old new : Durable S) → LeavesClosed g goes old new → LeavesEnd g goes waits old new
closed-end g goes waits old new crash db left = elim (crash db left) [ inl it ↦ inl (it.0, it.1, inl it.2) | inr before ↦ inr before ]

-- the file of a store that has forgotten fewer events
pub store-as : (s t : Stored) (c : Contents) → LetsGo s t → IsStoreOf c t → IsStoreOf c s
store-as s t c lets is =
    let it : IsStoreOf c (record s { forgotten = t.forgotten }) = subst (λ (u : Stored). IsStoreOf c u) lets is in
    record { types = it.types; history = it.history; limit = it.limit }

-- and then the file may begin anew
pub end-left : {S : Type 0} (g : Ghosts S) (goes : Bool) (waits : Option Extension) (old mid new : Durable S) → LetsGo (closed_by goes old.prepared.items old.store) mid.store → mid.prepared ≡ old.prepared → mid.journal.header ≡ old.journal.header → IsDurable g mid → (Clean g mid.journal → Clean g old.journal)
    → KeepsAll g old mid → LeavesClosed g goes old mid → LeavesNext g waits mid new → LeavesEnd g goes waits old new
end-left {S} g goes waits old mid new lets same header sound clean keeps crash anew db left = elim (anew db left) [
  | inl it ↦
      let (s, ps, next) = it.2 in
      let closed = closed_by goes old.prepared.items old.store in
      inl (
        clean it.0,
        it.1,
        inr (record {
          before = written g mid.journal;
          next = s;
          prepared = ps;
          over = (store-as closed mid.store (written g mid.journal) lets (is-store-of g mid sound it.0), it.3 ∙ ap (λ (h : Header). h ∷ []) header, (keeps it.0).0, (keeps it.0).1);
          is = next-file-as waits old.prepared.items closed mid.store s ps (written g mid.journal) (contents_of db) lets
              (subst (λ (all : Vec Prepared Global). IsNextFile waits all.items mid.store s ps (written g mid.journal) (contents_of db)) same next);
        }),
      )
  | inr before ↦ closed-end g goes waits old mid crash db before
]

-- ---- what was written

-- with what happens as an epoch ends
pub closed-written : {S : Type 0} (g : Ghosts S) (goes : Bool) (old mid : Durable S) → mid.store ≡ closed_by goes old.prepared.items old.store → WritesSince g old mid → Clean g mid.journal
    → written g mid.journal ≡ with_all (written g old.journal) (closings goes old.prepared.items old.store)
closed-written g goes old mid aborts since now =
    since now ∙ ap (λ es. with_all (written g old.journal) es)
    (ap (λ (s : Stored). drop (length old.store.history) s.history) aborts ∙ drop-append_seam old.store.history (closings goes old.prepared.items old.store))

-- nothing happened
pub stays-closed : (ps : List Prepared) (s : Stored) → s ≡ closed_by true ps s
stays-closed ps s = ap (λ h. let t : Stored = record s { history = h } in t) (sym (append-nil s.history))

pub writes-none : {S : Type 0} (g : Ghosts S) (d : Durable S) → WritesSince g d d
writes-none g d now =
    let c = written g d.journal in
    sym (ap (with_all c) (drop_all (length d.store.history) d.store.history (omega arith)) ∙ ap (λ es. let x : Contents = record c { events = es } in x) (append-nil c.events))

-- all of it became durable, and the epoch goes on
pub goes-on : {S E T : Type 0} (g : Ghosts S) (old mid new : Durable S) (r : Result T E) → mid.store ≡ closed_by false old.prepared.items old.store → mid.prepared ≡ old.prepared → mid.journal.header ≡ old.journal.header → WritesSince g old mid
    → OnOk r (new.store ≡ record mid.store { forgotten = length mid.store.history }) → new.prepared ≡ mid.prepared → new.journal.header ≡ mid.journal.header → (Clean g new.journal → Clean g mid.journal)
    → OnOk r (Clean g new.journal → durable g new.journal ≡ written g mid.journal) → OnOk r (EndsInEpoch g old new)
goes-on g old mid new (Ok u) aborts prepared life since settled same header clean kept = record {
  store =
      let closed = closed_by false old.prepared.items old.store in
      let is : new.store ≡ record closed { forgotten = length mid.store.history } = settled ∙ ap (λ (s : Stored). let t : Stored = record s { forgotten = length mid.store.history } in t) aborts in
      is ∙ ap (λ n. let t : Stored = record closed { forgotten = n } in t) (sym (ap (λ (s : Stored). s.forgotten) is));
  prepared = same ∙ prepared;
  life = header ∙ life;
  durable = λ now. kept now ∙ closed-written g false old mid aborts since (clean now);
}
goes-on g old mid new (Err e) aborts prepared life since settled same header clean kept = tt

pub writes-settled : {S E T : Type 0} (g : Ghosts S) (old mid new : Durable S) (r : Result T E) → WritesSince g old mid → (Clean g new.journal → Clean g mid.journal) → OnOk r (Clean g new.journal → written g new.journal ≡ written g mid.journal)
    → OnOk r (WritesMore g old new)
writes-settled g old mid new (Ok u) since clean same = λ now. subst (HasMore (written g old.journal)) (sym (same now)) (writes-more g old mid since (clean now))
writes-settled g old mid new (Err e) since clean same = tt

pub left-settled : {S : Type 0} (g : Ghosts S) (old mid new : Durable S) → (Clean g mid.journal → Clean g old.journal) → WritesSince g old mid → OutcomesStay g old mid → LeavesWritten g mid new → LeavesMore g old new
left-settled g old mid new clean since stay crash = leaves-then g old mid new clean (writes-more g old mid since) (outcomes-more g old mid stay) (written-more g mid new crash)

-- ---- a store that gets more objects

pub leaves-grown : {S : Type 0} (g : Ghosts S) (e : Extension) (texts : List (List ℕ)) (lines : List ObjectLine) (old new : Durable S) → texts ≡ e.added.texts.items → lines ≡ e.added.lines.items
    → LeavesGrowth g texts lines old new → LeavesNext g (Some e) old new
leaves-grown g e texts lines old new same_texts same_lines crash =
    subst (λ ts. LeavesGrowth g ts e.added.lines.items old new) same_texts (subst (λ ls. LeavesGrowth g texts ls old new) same_lines crash)

-- or goes on with those that it has
pub leaves-renewed : {S : Type 0} (g : Ghosts S) (old new : Durable S) → LeavesEpoch g old new → LeavesNext g None old new
leaves-renewed g old new crash db left = elim (crash db left) [
  | inl it ↦ (let (s, ps, over, is) = it.2 in inl (it.0, it.1, (s, ps, (over, is)), it.3))
  | inr before ↦ inr before
]
