-- Who is prepared, by what a file says and the history of its store.
use Rattle.std.proofs.Common.{◌≡◌, ◌∙◌, ℕ, List, [], ◌∷◌, if◌then◌else◌, true, false, Option, None, Some, refl, sym, ap, subst}
use Rattle.std.specs.List.{AllByRecursion}
use Rattle.std.specs.Str.{bytes_eq}
use Rattle.std.proofs.lemmas.Slice.Eq.{bytes_eq-Decides}
use Rattle.sqlite_trees.specs.declared.store.Store.{Ghosts}
use Rattle.object_trait.specs.declared.event.EventKind.{EventKind}
use Rattle.transaction_key.specs.TransactionKey.{key_place}
use Rattle.store_laws.specs.Stored.{Stored}
use Rattle.event_text.specs.EventText.{events_of_kinds}
use Rattle.journal.specs.declared.outcome_row.KeyedOutcome.{KeyedOutcome}
use Rattle.journal.specs.declared.prepared_row.Prepared.{Prepared}
use Rattle.journal.specs.Contents.{Contents}
use Rattle.journal.specs.Journal.{Clean, written}
use Rattle.durable_store.specs.declared.durable.Durable.{Durable}
use Rattle.durable_store.specs.Durable.{IsDurable, prepared_in, kinds}
use Rattle.durable_store.specs.Held.{first_passing, has_key, undecided}
use Rattle.serving.specs.NextEpoch.{SaysSame}
use Rattle.serving.specs.Prepared.{now_says}

-- what happened, back from the events
kinds-of : (happened : List EventKind) → kinds (events_of_kinds happened) ≡ happened
kinds-of [] = refl
kinds-of (k ∷ more) = ap (λ ks. k ∷ ks) (kinds-of more)

-- a file says what it says where its history is that of its store
pub says-now : {S : Type 0} (g : Ghosts S) (d : Durable S) → IsDurable g d → Clean g d.journal → now_says (written g d.journal) d.store ≡ written g d.journal
says-now g d sound clean =
    ap (λ es. let c : Contents = record (written g d.journal) { events = es } in c) (ap kinds (sound.history clean) ∙ kinds-of (written g d.journal).events)

-- it says who is prepared
pub held-written : {S : Type 0} (g : Ghosts S) (d : Durable S) → IsDurable g d → Clean g d.journal → d.prepared.items ≡ prepared_in (written g d.journal)
held-written g d sound clean = (sound.prepared clean).are ∙ ap (λ H. undecided H (written g d.journal).prepared) (sound.history clean)

-- also where its history is that of its store
pub held-now : {S : Type 0} (g : Ghosts S) (d : Durable S) → IsDurable g d → Clean g d.journal → d.prepared.items ≡ prepared_in (now_says (written g d.journal) d.store)
held-now g d sound clean =
    (sound.prepared clean).are
    ∙ ap (λ H. undecided H (written g d.journal).prepared) (sound.history clean ∙ ap events_of_kinds (sym (ap kinds (sound.history clean) ∙ kinds-of (written g d.journal).events)))

-- and so does what says the same
pub held-same : (c d : Contents) (s : Stored) → d.prepared ≡ c.prepared → prepared_in (now_says c s) ≡ prepared_in (now_says d s)
held-same c d s same = ap (undecided (events_of_kinds (kinds s.history))) (sym same)

pub held-said : {S : Type 0} (g : Ghosts S) (said : Contents) (d : Durable S) → IsDurable g d → Clean g d.journal → SaysSame said (written g d.journal) → d.prepared.items ≡ prepared_in (now_says said d.store)
held-said g said d sound clean says = held-now g d sound clean ∙ sym (held-same said (written g d.journal) d.store says.3)

-- nothing is kept at the place of a key under which a transaction is prepared
free-under : (outcomes : ℕ → Option KeyedOutcome) (key : List ℕ) (ps : List Prepared) (p : Prepared) → AllByRecursion (λ (p : Prepared). outcomes (key_place p.key) ≡ None) ps → first_passing (has_key key) ps ≡ Some p
    → outcomes (key_place key) ≡ None
free-under outcomes key [] p free there = absurd cc
free-under outcomes key (q ∷ ps) p free there =
    elim (bytes_eq q.key key) as (λ b. bytes_eq q.key key ≡ b → (if b then Some q else first_passing (has_key key) ps) ≡ Some p → outcomes (key_place key) ≡ None) [
      | true ↦ λ same is. ap (λ k. outcomes (key_place k)) (sym ((bytes_eq-Decides q.key key).0 same)) ∙ free.0
      | false ↦ λ other is. free-under outcomes key ps p free.1 is
    ] refl there

pub free-of : {S : Type 0} (g : Ghosts S) (d : Durable S) → IsDurable g d → Clean g d.journal → (key : List ℕ) (p : Prepared) → first_passing (has_key key) (prepared_in (written g d.journal)) ≡ Some p
    → (written g d.journal).outcomes.at (key_place key) ≡ None
free-of g d sound clean key p there =
    let is = sound.prepared clean in
    let listed = held-written g d sound clean in
    free-under (written g d.journal).outcomes.at key d.prepared.items p is.free (subst (λ ps. first_passing (has_key key) ps ≡ Some p) (sym listed) there)
