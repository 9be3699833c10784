-- What a file has of what its store holds.
use Rattle.std.proofs.Common.{◌≡◌, ◌∙◌, ℕ, Bool, List, Option, Some, None, refl, sym, ap, subst}
use Rattle.std.specs.Prelude.{Contains}
use Rattle.object_trait.specs.declared.event.Event.{Event}
use Rattle.serial_order.specs.History.{is_open, summary}
use Rattle.store_laws.specs.Stored.{Stored}
use Rattle.event_text.specs.EventText.{events_of_kinds}
use Rattle.journal.specs.declared.prepared_row.Prepared.{Prepared}
use Rattle.journal.specs.Contents.{Contents}
use Rattle.journal.specs.Outcomes.{Outcomes}
use Rattle.durable_store.specs.Durable.{prepared_in}
use Rattle.durable_store.specs.Held.{moved_among}
use Rattle.durable_store.specs.Recovered.{IsStoreOf}
use Rattle.serving.specs.declared.extension.Extension.{Extension}
use Rattle.serving.specs.Epochs.{closings}
use Rattle.serving.specs.Left.{IsStoreFile, closed_store}
use Rattle.serving.specs.NextEpoch.{SaysNext}
use Rattle.serving.proofs.NextEpochs.{next-events, next-says, next-store}
use Rattle.held_votes.specs.VotesHeld.{operations_at}
use Rattle.held_votes.proofs.Epochs.{closings-beside, holds-over, next-begins, works-over}
use Rattle.held_votes.proofs.OwnEvents.{works-beside}
use Rattle.held_votes.proofs.Rows.{HaveBegun, Holds, IsIn, holds-among, holds-beside, in-contains, in-filter, open_rows}
use Rattle.held_votes.proofs.SameKinds.{open-same, works-same}

-- ---- a file that begins anew

pub next-rows : (waits : Option Extension) (ps : List Prepared) (c now : Contents) → SaysNext waits ps c now → now.prepared ≡ ps
next-rows None ps c now says = says.3
next-rows (Some e) ps c now says = says.1

-- ---- a row

-- a file has a row of this one, but for its number: it is prepared, with the operations that survive in the store
pub record HasRow (c : Contents) (s : Stored) (p : Prepared) : Type 0 where
  pub row : Prepared
  pub there : Contains (prepared_in c) row
  pub key : row.key ≡ p.key
  pub given : row.given ≡ p.given
  pub until : row.until ≡ p.until
  pub works : (x : ℕ) → operations_at (events_of_kinds c.events) row.number x ≡ operations_at s.history p.number x

has-there : (H : List Event) (rows : List Prepared) (outcomes : Outcomes) (p : Prepared) (c : Contents) → Holds H rows outcomes p → c.prepared ≡ rows
    → is_open (summary (events_of_kinds c.events)) p.number ≡ is_open (summary H) p.number → Contains (prepared_in c) p
has-there H rows outcomes p c holds same going =
    let those : List Prepared = prepared_in c in
    in-contains those p
    (in-filter (λ (q : Prepared). is_open (summary (events_of_kinds c.events)) q.number) c.prepared p (subst (λ (rs : List Prepared). IsIn p rs) (sym same) holds.there) (going ∙ holds.opened))

-- of a store whose history its events are
of-store : (c : Contents) (s : Stored) (rows : List Prepared) (outcomes : Outcomes) (p : Prepared) → IsStoreOf c s → c.prepared ≡ rows → Holds s.history rows outcomes p → HasRow c s p
of-store c s rows outcomes p is same holds = record {
  row = p;
  there = has-there s.history rows outcomes p c holds same (ap (λ H. is_open (summary H) p.number) (sym is.history));
  key = refl;
  given = refl;
  until = refl;
  works = λ x. ap (λ H. operations_at H p.number x) (sym is.history);
}

pub file-has : {over : Bool → Type 0} {waits : Option Extension} {life : ℕ} {said : Contents} {s : Stored} {c : Contents} → IsStoreFile over waits life said s c → (p : Prepared) → HaveBegun s.history said.prepared
    → Holds s.history said.prepared said.outcomes p → HasRow c s p
file-has {said = said} {s = s} (IsStoreFile.present c is lives knows) p began holds = of-store c s said.prepared said.outcomes p is knows.1 holds
file-has {said = said} {s = s} (IsStoreFile.closed goes c so is lives knows) p began holds =
    let ps = open_rows s.history said.prepared in
    let es = closings goes ps s in
    let beside = closings-beside goes ps s p.number (holds-among s.history said.prepared said.outcomes p holds) in
    let has = of-store c (closed_store goes said s) said.prepared said.outcomes p is knows.1 (holds-beside s.history said.prepared said.outcomes p holds es began beside) in
    record { row = has.row; there = has.there; key = has.key; given = has.given; until = has.until; works = λ x. has.works x ∙ works-beside s.history es p.number x beside }
file-has {waits = waits} {said = said} {s = s} (IsStoreFile.anew goes c now next ps so is lives knows begins) p began holds =
    let qs = open_rows s.history said.prepared in
    let old = closed_store goes said s in
    let it = next-begins waits qs old next ps (next-store waits qs old next ps c now begins) in
    let q = moved_among it.those p in
    let moved = holds-over goes s said.prepared next ps it said.outcomes p holds in
    let events = next-events waits qs old next ps c now begins in
    let rows = next-rows waits ps c now (next-says waits qs old next ps c now begins) in
    record {
      row = q;
      there = has-there next.history ps said.outcomes q now moved rows (ap (λ ks. is_open (summary (events_of_kinds ks)) q.number) events ∙ open-same next.history q.number);
      key = refl;
      given = refl;
      until = refl;
      works = λ x. ap (λ ks. operations_at (events_of_kinds ks) q.number x) events ∙ works-same next.history q.number x ∙ works-over goes s said.prepared next ps it said.outcomes p holds x;
    }
