-- A recovery: what is open and isn't prepared is aborted, in the next life.
use Rattle.std.proofs.Common.{◌≡◌, ◌∙◌, ℕ, ◌+◌, List, [], ◌∷◌, ◌++◌, Result, Ok, Err, drop, length, refl, sym, ap, subst}
use Rattle.std.specs.Prelude.{OnOk}
use Rattle.std.proofs.Math.Seq.{drop-append_seam}
use Rattle.sqlite_trees.specs.declared.store.Store.{Ghosts}
use Rattle.sqlite_trees.specs.Tree.{Trees}
use Rattle.object_trait.specs.declared.event.Event.{Event}
use Rattle.store.specs.Ends.{closing_but}
use Rattle.store_laws.specs.Stored.{Stored}
use Rattle.event_text.specs.EventText.{events_of_kinds}
use Rattle.journal.specs.declared.header.Header.{Header}
use Rattle.journal.specs.declared.journal.Journal.{Journal}
use Rattle.journal.specs.declared.prepared_row.Prepared.{Prepared}
use Rattle.journal.specs.Contents.{Contents, in_life}
use Rattle.journal.specs.Journal.{Clean, IsJournal, IsOpen, ShowsCommit, durable, may_leave, written}
use Rattle.durable_store.specs.declared.durable.Durable.{Durable}
use Rattle.durable_store.specs.Durable.{IsDurable, WritesSince, prepared_in, with_all}
use Rattle.durable_store.specs.Held.{ArePrepared, prepared_numbers, undecided}
use Rattle.durable_store.specs.Names.{IndexesNames}
use Rattle.durable_store.specs.Types.{HasTypes}
use Rattle.durable_store.specs.Recovered.{Recovers, next_life, recovered}
use Rattle.durable_store.proofs.EpochWrites.{next-is}
use Rattle.durable_store.proofs.GoneOver.{prepared-alike}

-- another life changes nothing of who is prepared
raised-prepared : (H : List Event) (c now : Contents) (life : ℕ) (ps : List Prepared) → now ≡ in_life c life → ArePrepared H c ps → ArePrepared H now ps
raised-prepared H c now life ps is are = subst (λ (n : Contents). ArePrepared H n ps) (sym is) (prepared-alike H c (in_life c life) ps refl (λ n empty. empty) are)

pub raised-durable : {S : Type 0} (g : Ghosts S) (d : Durable S) (raised : Journal S) (life : ℕ) → IsDurable g d → IsJournal g raised → (Clean g raised → written g raised ≡ in_life (written g d.journal) life)
    → (Clean g raised → durable g raised ≡ durable g d.journal) → (Clean g raised → Clean g d.journal) → ((db : Trees) → may_leave g raised db → may_leave g d.journal db)
    → IsDurable g (record { store = d.store; journal = raised; names = d.names; prepared = d.prepared; strong = d.strong })
raised-durable g d raised life sound kept is same was crash = record {
  journal = kept;
  history = λ clean. sound.history (was clean) ∙ ap (λ (c : Contents). events_of_kinds c.events) (sym (is clean));
  types = λ clean. subst (λ (c : Contents). HasTypes c d.store.types) (sym (is clean)) (sound.types (was clean));
  settled = λ clean db left. sound.settled (was clean) db (crash db left) ∙ sym (same clean);
  limit = sound.limit;
  own = sound.own;
  named = λ clean. subst (λ (c : Contents). IndexesNames c.objects d.names) (sym (is clean)) (sound.named (was clean));
  prepared = λ clean. raised-prepared d.store.history (written g d.journal) (written g raised) life d.prepared.items (is clean) (sound.prepared (was clean));
  strong = sound.strong;
}

-- what is written then is the file as an open leaves it
recovered-is : (c aborted raised : Contents) (H K : List Event) (ps : List Prepared) (header : Header) (life : ℕ) → H ≡ events_of_kinds c.events → ps ≡ undecided H c.prepared → K ≡ H ++ closing_but (prepared_numbers ps) H
    → aborted ≡ with_all c (drop (length H) K) → raised ≡ in_life aborted life → life ≡ header.life + 1 → aborted.headers ≡ header ∷ [] → raised ≡ recovered c
recovered-is c aborted raised H K ps header life history are more writes is raises last =
    let since : drop (length H) K ≡ closing_but (prepared_numbers ps) H = ap (drop (length H)) more ∙ drop-append_seam H (closing_but (prepared_numbers ps) H) in
    let same : closing_but (prepared_numbers ps) H ≡ closing_but (prepared_numbers (prepared_in c)) (events_of_kinds c.events) =
    ap (λ rs. closing_but (prepared_numbers rs) H) are ∙ ap (λ G. closing_but (prepared_numbers (undecided G c.prepared)) G) history in
    is ∙ ap (in_life aborted) (next-is aborted header life raises last) ∙ ap (λ (a : Contents). in_life a (next_life a.headers)) (writes ∙ ap (with_all c) (since ∙ same))

-- a store whose open transactions are aborted, but for those that are prepared, and a journal that is in its next life
pub record AreAborted {S : Type 0} (g : Ghosts S) (old aborted : Durable S) (raised : Journal S) (life : ℕ) : Type 0 where
  pub sound : IsDurable g old
  pub store : aborted.store ≡ record old.store { history = old.store.history ++ closing_but (prepared_numbers old.prepared.items) old.store.history }
  pub prepared : aborted.prepared ≡ old.prepared
  pub writes : WritesSince g old aborted
  pub was : Clean g aborted.journal → Clean g old.journal
  pub raises : life ≡ aborted.journal.header.life + 1
  pub last : Clean g raised → (written g aborted.journal).headers ≡ aborted.journal.header ∷ []
  pub is : Clean g raised → written g raised ≡ in_life (written g aborted.journal) life
  pub back : Clean g raised → Clean g aborted.journal

pub raised-is : {S : Type 0} (g : Ghosts S) (old aborted : Durable S) (raised : Journal S) (life : ℕ) → AreAborted g old aborted raised life → Clean g raised → written g raised ≡ recovered (written g old.journal)
raised-is g old aborted raised life are clean =
    let mid = are.back clean in
    let before = are.was mid in
    recovered-is (written g old.journal) (written g aborted.journal) (written g raised) old.store.history aborted.store.history old.prepared.items aborted.journal.header life
    (are.sound.history before) (are.sound.prepared before).are (ap (λ (s : Stored). s.history) are.store) (are.writes mid) (are.is clean) are.raises (are.last clean)

-- all of it is settled
pub recovers : {S T E : Type 0} (g : Ghosts S) (old aborted new : Durable S) (raised : Journal S) (life : ℕ) (r : Result T E) → AreAborted g old aborted raised life → new.prepared ≡ aborted.prepared
    → (Clean g new.journal → Clean g raised) → OnOk r (new.store ≡ record aborted.store { forgotten = length aborted.store.history })
    → OnOk r (Clean g new.journal → written g new.journal ≡ written g raised) → OnOk r (Clean g new.journal → durable g new.journal ≡ written g raised)
    → OnOk r (Clean g new.journal → IsOpen g new.journal) → OnOk r (ShowsCommit g new.journal) → OnOk r (Recovers g old new)
recovers g old aborted new raised life (Err e) are prepared cleans store says settled opens shows = tt
recovers g old aborted new raised life (Ok x) are prepared cleans store says settled opens shows = record {
  types = ap (λ (s : Stored). s.types) store ∙ ap (λ (s : Stored). s.types) are.store;
  history = ap (λ (s : Stored). s.history) store ∙ ap (λ (s : Stored). s.history) are.store;
  prepared = prepared ∙ are.prepared;
  clean = λ clean. are.was (are.back (cleans clean));
  is_open = opens;
  shows = shows;
  durable = λ clean. settled clean ∙ raised-is g old aborted raised life are (cleans clean);
  written = λ clean. says clean ∙ raised-is g old aborted raised life are (cleans clean);
}
