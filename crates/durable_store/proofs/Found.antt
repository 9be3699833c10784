-- What is found after a settling that answered.
use Rattle.std.proofs.Common.{◌≡◌, ◌∙◌, Bool, List, ◌++◌, Option, Some, None, Result, Ok, Err, IfSome, OnOk, IsTrue, sym, ap, length}
use Rattle.std.proofs.lemmas.Bool.{false≢true}
use Rattle.std.specs.Result.{is_ok}
use Rattle.std.specs.declared.alloc.Global.{Global}
use Rattle.std.specs.declared.vec.Vec.{Vec}
use Rattle.sqlite_trees.specs.declared.store.Store.{Ghosts}
use Rattle.sqlite_trees.specs.Tree.{Trees}
use Rattle.store_laws.specs.Stored.{Stored}
use Rattle.store.specs.Ends.{closing_but}
use Rattle.event_text.specs.EventText.{events_of_kinds}
use Rattle.journal.specs.declared.prepared_row.Prepared.{Prepared}
use Rattle.journal.specs.Contents.{Contents, contents_of}
use Rattle.journal.specs.Journal.{Clean, durable, may_leave, written}
use Rattle.durable_store.specs.declared.durable.Durable.{Durable}
use Rattle.durable_store.specs.Durable.{IsDurable, prepared_in}
use Rattle.durable_store.specs.Held.{prepared_numbers, undecided}
use Rattle.durable_store.specs.Recovered.{IsRecovered}

-- it has the whole history and the aborts of what was open and isn't prepared, and what was prepared is so
abbrev pub HasAll : {S : Type 0} → Durable S → Durable S → Type 0
HasAll running found =
    (found.store.history ≡ running.store.history ++ closing_but (prepared_numbers running.prepared.items) running.store.history) × (found.prepared.items ≡ running.prepared.items)

-- the store that an open makes of a file that says what was settled
found-all : {S : Type 0} (g : Ghosts S) (running settled found : Durable S) (c : Contents) → IsDurable g settled → settled.store ≡ record running.store { forgotten = length running.store.history } → settled.prepared ≡ running.prepared
    → Clean g settled.journal → c ≡ written g settled.journal → IsRecovered g c found → HasAll running found
found-all g running settled found c sound store prepared clean says it =
    let same : settled.store.history ≡ running.store.history = ap (λ (s : Stored). s.history) store in
    let told : events_of_kinds c.events ≡ settled.store.history = ap (λ (c : Contents). events_of_kinds c.events) says ∙ sym (sound.history clean) in
    let rows : prepared_in c ≡ settled.prepared.items =
    ap (λ H. undecided H c.prepared) told ∙ ap (λ (c : Contents). undecided settled.store.history c.prepared) says ∙ sym (sound.prepared clean).are in
    let kept : prepared_in c ≡ running.prepared.items = rows ∙ ap (λ (ps : Vec Prepared Global). ps.items) prepared in (
      it.history ∙ ap (λ (ps : List Prepared). events_of_kinds c.events ++ closing_but (prepared_numbers ps) (events_of_kinds c.events)) kept
          ∙ ap (λ H. H ++ closing_but (prepared_numbers running.prepared.items) H) (told ∙ same),
      it.prepared ∙ kept,
    )

-- where it answered, the store that is found has all of it
pub acknowledged : {S T E : Type 0} (g : Ghosts S) (running settled : Durable S) (told : Bool) (result : Result T E) (found : Option (Durable S)) → told ≡ is_ok result
    → OnOk result (IsDurable g settled) → OnOk result (settled.store ≡ record running.store { forgotten = length running.store.history }) → settled.prepared ≡ running.prepared
    → OnOk result (Clean g settled.journal → written g settled.journal ≡ written g running.journal) → OnOk result (Clean g settled.journal → durable g settled.journal ≡ written g running.journal)
    → IfSome found (λ d. Clean g d.journal → Clean g settled.journal)
    → IfSome found (λ d. Clean g d.journal → (db : Trees) × may_leave g settled.journal db × IsRecovered g (contents_of db) d)
    → IfSome found (λ d. Clean g d.journal → IsTrue told → HasAll running d)
acknowledged g running settled told result None is sound store prepared says lasts cleans finds = tt
acknowledged g running settled told (Err e) (Some d) is sound store prepared says lasts cleans finds = λ clean yes. absurd (false≢true (sym is ∙ yes))
acknowledged g running settled told (Ok x) (Some d) is sound store prepared says lasts cleans finds =
    λ clean yes.
    let was = cleans clean in
    let it = finds clean in
    let left : contents_of it.0 ≡ durable g settled.journal = sound.settled was it.0 it.1 in
    found-all g running settled d (contents_of it.0) sound store prepared was (left ∙ lasts was ∙ sym (says was)) it.2
