-- What grows while transactions are prepared: what was known of the store and of its file before.
use Rattle.std.proofs.Common.{◌≡◌, ◌∙◌, ℕ, List, ◌∷◌, [], ◌++◌, map, length, sym, ap, subst, inl, inr}
use Rattle.std.specs.Prelude.{◌⊎◌}
use Rattle.std.specs.declared.alloc.Global.{Global}
use Rattle.std.specs.declared.vec.Vec.{Vec}
use Rattle.sqlite_trees.specs.declared.store.Store.{Ghosts}
use Rattle.sqlite_trees.specs.Tree.{Trees}
use Rattle.table_checker.specs.Checked.{Checked}
use Rattle.object_trait.specs.Meaning.{Meaning}
use Rattle.object_trait.specs.declared.event.Event.{Event}
use Rattle.store.specs.Ends.{AreFresh}
use Rattle.store_laws.specs.Stored.{Stored, types_of}
use Rattle.store_text.specs.declared.line.ObjectLine.{ObjectLine}
use Rattle.journal.specs.declared.prepared_row.Prepared.{Prepared}
use Rattle.journal.specs.Contents.{Contents, IsFile, contents_of}
use Rattle.journal.specs.Journal.{Clean, may_leave, written}
use Rattle.objects.specs.Object.{meaning_of}
use Rattle.durable_store.specs.declared.durable.Durable.{Durable}
use Rattle.durable_store.specs.declared.growth.Growth.{Growth}
use Rattle.durable_store.specs.declared.open_error.OpenError.{OpenError}
use Rattle.durable_store.specs.declared.open_error.OpenError.TheVariants as error
use Rattle.durable_store.specs.Durable.{IsDurable, kinds}
use Rattle.durable_store.specs.Epochs.{GoesOver}
use Rattle.durable_store.specs.Growth.{AreAdded, ArePlaced, AreUnknown, Grows, LeavesGrowth, RefusesGrowth, grown}
use Rattle.durable_store.specs.GrowthParts.{IsGrowth, LeavesGrown, RefusesObjects}
use Rattle.durable_store.specs.Held.{moved_among}
use Rattle.durable_store.specs.NextStore.{BeginsNext, GoOver}
use Rattle.durable_store.proofs.NextStores.{goes}

-- from the same store, with the same transactions prepared
pub over-alike : (added : List Checked) (old was : Stored) (rows were : List Prepared) (new : Stored) (ps : List Prepared) → was ≡ old → were ≡ rows → GoesOver added was were new ps → GoesOver added old rows new ps
over-alike added old was rows were new ps same alike over = subst (λ (s : Stored). GoesOver added s rows new ps) same (subst (λ (rs : List Prepared). GoesOver added was rs new ps) alike over)

-- texts and objects that were made for what the file has
pub record AreMadeFor (texts : List (List ℕ)) (lines : List ObjectLine) (known : List (List ℕ)) (added : List Checked) (fresh : List (List ℕ)) (placed : List ObjectLine) : Type 0 where
  pub are : AreAdded texts lines added
  pub unknown : AreUnknown known fresh
  pub at : ArePlaced texts (known ++ fresh) lines placed

pub made-for : (known texts : List (List ℕ)) (lines : List ObjectLine) (growth : Growth) → IsGrowth known texts lines growth
    → AreMadeFor texts lines known (types_of (map meaning_of growth.objects.items)) growth.texts.items growth.lines.items
made-for known texts lines growth made = record { are = made.are; unknown = made.unknown; at = made.placed }

pub grows : (texts : List (List ℕ)) (lines : List ObjectLine) (known : List (List ℕ)) (added : List Checked) (fresh : List (List ℕ)) (placed : List ObjectLine) (old was : Stored) (rows were : List Prepared) (new : Stored) (ps : List Prepared)
    (c before now : Contents) → AreMadeFor texts lines known added fresh placed → known ≡ c.types → was ≡ old → were ≡ rows → before ≡ c → GoesOver added was were new ps
    → now ≡ grown before fresh placed new.types (kinds new.history) ps → Grows texts lines old rows new ps c now
grows texts lines known added fresh placed old was rows were new ps c before now made known_is same alike file over is = record {
  added = added;
  are = made.are;
  over = over-alike added old was rows were new ps same alike over;
  fresh = fresh;
  unknown = subst (λ ts. AreUnknown ts fresh) known_is made.unknown;
  placed = placed;
  are_placed = subst (λ ts. ArePlaced texts (ts ++ fresh) lines placed) known_is made.at;
  is = is ∙ ap (λ (b : Contents). grown b fresh placed new.types (kinds new.history) ps) file;
}

-- what a crash leaves, by what was read before
pub leaves-growth : {S : Type 0} (g : Ghosts S) (old was new : Durable S) (texts : List (List ℕ)) (lines : List ObjectLine) (known : List (List ℕ)) (added : List Checked) (fresh : List (List ℕ)) (placed : List ObjectLine)
    → AreMadeFor texts lines known added fresh placed → was.store ≡ old.store → was.prepared ≡ old.prepared → was.journal.header ≡ old.journal.header → (Clean g was.journal → Clean g old.journal)
    → (Clean g was.journal → written g was.journal ≡ written g old.journal) → (Clean g was.journal → known ≡ (written g old.journal).types)
    → ((db : Trees) → may_leave g was.journal db → may_leave g old.journal db) → LeavesGrown g fresh placed added was new → LeavesGrowth g texts lines old new
leaves-growth g old was new texts lines known added fresh placed made store prepared header cleans says knows crash leaves = λ db left. elim (leaves db left) [
  | inl is ↦ (
      let (s, ps, over, file) = is.2 in
      inl (
        cleans is.0,
        is.1,
        (
          s,
          ps,
          grows texts lines known added fresh placed old.store was.store old.prepared.items was.prepared.items s ps (written g old.journal) (written g was.journal) (contents_of db) made (knows is.0) store
              (ap (λ (rs : Vec Prepared Global). rs.items) prepared) (says is.0) over file,
        ),
        ap (λ (c : Contents). c.headers) (sym (says is.0)) ∙ is.3 ∙ ap (λ h. h ∷ []) header,
      ))
  | inr before ↦ inr (crash db before)
]

-- the same texts and lines
pub grown-by : {S : Type 0} (g : Ghosts S) (d new : Durable S) (texts fresh : List (List ℕ)) (lines placed : List ObjectLine) (types : List Checked) (H : List Event) (ps : List Prepared) → texts ≡ fresh → lines ≡ placed
    → ((db : Trees) → may_leave g new.journal db
    → (Clean g d.journal × IsFile db × (contents_of db ≡ grown (written g d.journal) texts lines types (kinds H) ps) × ((written g d.journal).headers ≡ d.journal.header ∷ [])) ⊎ may_leave g d.journal db)
    → (db : Trees) → may_leave g new.journal db
    → (Clean g d.journal × IsFile db × (contents_of db ≡ grown (written g d.journal) fresh placed types (kinds H) ps) × ((written g d.journal).headers ≡ d.journal.header ∷ [])) ⊎ may_leave g d.journal db
grown-by g d new texts fresh lines placed types H ps same alike leaves = λ db left. elim (leaves db left) [
  | inl is ↦ inl (is.0, is.1, is.2 ∙ ap (λ ts. grown (written g d.journal) ts lines types (kinds H) ps) same ∙ ap (λ ls. grown (written g d.journal) fresh ls types (kinds H) ps) alike, is.3)
  | inr before ↦ inr before
]

-- what a crash leaves of a store that is ahead
pub leaves-grown : {S : Type 0} (g : Ghosts S) (d : Durable S) (those : List ℕ) (store : Stored) (ps : Vec Prepared Global) (new : Durable S) (fresh : List (List ℕ)) (placed : List ObjectLine) (added : List Checked)
    → IsDurable g d → GoOver d.strong d.store.history d.prepared.items those → BeginsNext d.strong d.store those added store → ps.items ≡ map (moved_among those) d.prepared.items
    → ((db : Trees) → may_leave g new.journal db
    → (Clean g d.journal × IsFile db × (contents_of db ≡ grown (written g d.journal) fresh placed store.types (kinds store.history) ps.items) × ((written g d.journal).headers ≡ d.journal.header ∷ [])) ⊎ may_leave g d.journal db)
    → LeavesGrown g fresh placed added d new
leaves-grown g d those store ps new fresh placed added sound going begins are leaves = λ db left. elim (leaves db left) [
  | inl is ↦ inl (is.0, is.1, (record store { forgotten = length store.history }, ps.items, goes d.strong added d.store d.prepared.items those store ps.items sound.strong going begins are, is.2), is.3)
  | inr before ↦ inr before
]

-- ---- a refusal

-- the store refuses objects of these lines
pub refuses : (texts : List (List ℕ)) (lines : List ObjectLine) (ms : List Meaning) (old was : Stored) (rows were : List Prepared) (why : OpenError) → AreAdded texts lines (types_of ms) → AreFresh ms → was ≡ old → were ≡ rows
    → RefusesObjects ms was were why → RefusesGrowth texts lines old rows why
refuses texts lines ms old was rows were (error.NotExtended why) are fresh same alike refused =
    (ms, are, fresh, subst (λ (s : Stored). RefusesObjects ms s rows (error.NotExtended why)) same (subst (λ (rs : List Prepared). RefusesObjects ms was rs (error.NotExtended why)) alike refused))
refuses texts lines ms old was rows were (error.Journal fault) are fresh same alike refused = tt
refuses texts lines ms old was rows were (error.Text k) are fresh same alike refused = tt
refuses texts lines ms old was rows were (error.Untyped x) are fresh same alike refused = tt
refuses texts lines ms old was rows were (error.NameTaken x) are fresh same alike refused = tt
refuses texts lines ms old was rows were (error.NoStore why) are fresh same alike refused = tt
refuses texts lines ms old was rows were (error.NotMade place) are fresh same alike refused = tt
refuses texts lines ms old was rows were (error.NotPrepared place) are fresh same alike refused = tt
refuses texts lines ms old was rows were error.NoMemory are fresh same alike refused = tt
