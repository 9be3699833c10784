-- A store that is made again of its file.
use Rattle.std.proofs.Common.{◌≡◌, ◌↔◌, ◌∙◌, Bool, true, List, ◌++◌, sym, ap, subst, inl, inr}
use Rattle.std.specs.Prelude.{◌⊎◌}
use Rattle.std.specs.declared.alloc.Global.{Global}
use Rattle.std.specs.declared.vec.Vec.{Vec}
use Rattle.sqlite_trees.specs.declared.store.Store.{Ghosts}
use Rattle.sqlite_trees.specs.Tree.{Trees}
use Rattle.object_trait.specs.declared.event.Event.{Event}
use Rattle.store.specs.Ends.{closing_but}
use Rattle.carried_orders.specs.Orders.{AreStrong}
use Rattle.store.specs.Retraces.{IsTracedHistory}
use Rattle.store_laws.specs.Stored.{Stored}
use Rattle.event_text.specs.EventText.{events_of_kinds}
use Rattle.journal.specs.declared.contents.FileContents.{FileContents}
use Rattle.journal.specs.declared.journal.Journal.{Journal}
use Rattle.journal.specs.declared.prepared_row.Prepared.{Prepared}
use Rattle.journal.specs.Contents.{Contents, IsFile, contents_of}
use Rattle.journal.specs.Journal.{Clean, IsJournal, IsSettled, durable, may_leave, written}
use Rattle.journal.specs.Said.{contents, contents_beside}
use Rattle.durable_store.specs.declared.durable.Durable.{Durable}
use Rattle.durable_store.specs.declared.object_names.ObjectNames.{ObjectNames}
use Rattle.durable_store.specs.Durable.{IsDurable, prepared_in}
use Rattle.durable_store.specs.Held.{ArePrepared, prepared_numbers, undecided}
use Rattle.durable_store.specs.Names.{IndexesNames}
use Rattle.durable_store.specs.Recovered.{IsNotFollowed, IsNotMade, IsRecovered, IsStoreOf, Recovers, recovered}
use Rattle.durable_store.specs.Types.{HasTypes}

-- a journal that was just opened says this, and of it a store is made; then it was read, which changed nothing
pub record IsReadAgain {S : Type 0} (g : Ghosts S) (journal read : Journal S) (said : FileContents) (store : Stored) : Type 0 where
  pub same : Clean g journal → written g journal ≡ durable g journal
  pub says : Clean g journal → durable g journal ≡ contents_beside (durable g journal).outcomes said
  pub settled : Clean g journal → IsSettled g journal
  pub of : IsStoreOf (contents said) store
  pub own : IsTracedHistory store
  pub kept : IsJournal g read
  pub written : Clean g read → written g read ≡ written g journal
  pub durable : Clean g read → durable g read ≡ durable g journal
  pub clean : Clean g read → Clean g journal
  pub crash : (db : Trees) → may_leave g read db → may_leave g journal db

-- the store is sound before its recovery
pub resumed : {S : Type 0} (g : Ghosts S) (journal read : Journal S) (said : FileContents) (store : Stored) (names : ObjectNames) (ps : Vec Prepared Global) (strong : Bool) → IsReadAgain g journal read said store
    → IndexesNames said.objects.items names → (Clean g read → ArePrepared store.history (written g journal) ps.items) → (strong ≡ true) ↔ AreStrong store.types
    → IsDurable g (record { store = store; journal = read; names = names; prepared = ps; strong = strong })
resumed g journal read said store names ps strong it named are told = record {
  journal = it.kept;
  history = λ clean. it.of.history ∙ ap (λ (c : Contents). events_of_kinds c.events) (sym (it.written clean ∙ it.same (it.clean clean) ∙ it.says (it.clean clean)));
  types = λ clean. subst (λ (c : Contents). HasTypes c store.types) (sym (it.written clean ∙ it.same (it.clean clean) ∙ it.says (it.clean clean))) it.of.types;
  settled = λ clean db left. it.settled (it.clean clean) db (it.crash db left) ∙ sym (it.durable clean);
  limit = it.of.limit;
  own = it.own;
  named = λ clean. subst (λ (c : Contents). IndexesNames c.objects names) (sym (it.written clean ∙ it.same (it.clean clean) ∙ it.says (it.clean clean))) named;
  prepared = λ clean. subst (λ (c : Contents). ArePrepared store.history c ps.items) (sym (it.written clean)) (are clean);
  strong = told;
}

-- and recovered afterwards
pub resumed-found : {S : Type 0} (g : Ghosts S) (c : Contents) (made d : Durable S) → IsDurable g made → (Clean g made.journal → written g made.journal ≡ c) → Recovers g made d → Clean g d.journal → IsRecovered g c d
resumed-found g c made d sound says did clean =
    let was = did.clean clean in
    let is = says was in
    let told : made.store.history ≡ events_of_kinds c.events = sound.history was ∙ ap (λ (c : Contents). events_of_kinds c.events) is in
    let rows : made.prepared.items ≡ prepared_in c =
    (sound.prepared was).are ∙ ap (λ H. undecided H (written g made.journal).prepared) told ∙ ap (λ (w : Contents). undecided (events_of_kinds c.events) w.prepared) is in
    record {
      types = subst (λ (c : Contents). HasTypes c d.store.types) is (subst (HasTypes (written g made.journal)) (sym did.types) (sound.types was));
      history =
          did.history ∙ ap (λ (ps : List Prepared). made.store.history ++ closing_but (prepared_numbers ps) made.store.history) rows
          ∙ ap (λ (H : List Event). H ++ closing_but (prepared_numbers (prepared_in c)) H) told;
      prepared = ap (λ (ps : Vec Prepared Global). ps.items) did.prepared ∙ rows;
      written = did.written clean ∙ ap recovered is;
      durable = did.durable clean ∙ ap recovered is;
    }

-- what a crash leaves before it is, by what it left before the file was read
pub leaves-before : {S : Type 0} (g : Ghosts S) (journal : Journal S) (made : Durable S) (trees : S) → (Clean g made.journal → Clean g journal) → (Clean g made.journal → written g made.journal ≡ durable g journal)
    → ((db : Trees) → may_leave g made.journal db → may_leave g journal db)
    → ((db : Trees) → g.recovers trees db → (Clean g made.journal × IsFile db × (contents_of db ≡ recovered (written g made.journal))) ⊎ may_leave g made.journal db)
    → (db : Trees) → g.recovers trees db → (Clean g journal × IsFile db × (contents_of db ≡ recovered (durable g journal))) ⊎ may_leave g journal db
leaves-before g journal made trees cleans says crash leaves = λ db left. elim (leaves db left) [
  | inl is ↦ inl (cleans is.0, is.1, is.2 ∙ ap recovered (says is.0))
  | inr before ↦ inr (crash db before)
]

-- ---- what is refused

-- its events aren't made
pub not-made : (c : Contents) (said : FileContents) → c ≡ contents_beside c.outcomes said → IsNotMade (contents said) → IsNotFollowed c
not-made c said says refused = inl (subst IsNotMade (sym says) refused)

-- its rows are those of no store
pub not-prepared : (c w : Contents) (said : FileContents) (store : Stored) → c ≡ contents_beside c.outcomes said → w ≡ c → IsStoreOf (contents said) store
    → (ArePrepared store.history w (undecided store.history said.prepared.items) → ⊥) → IsNotFollowed c
not-prepared c w said store says same of refused =
    let E = events_of_kinds c.events in
    let told : store.history ≡ E = of.history ∙ ap (λ (c : Contents). events_of_kinds c.events) (sym says) in
    let rows : said.prepared.items ≡ c.prepared = ap (λ (c : Contents). c.prepared) (sym says) in
    inr (λ are.
    refused
    (subst (λ H. ArePrepared H w (undecided H said.prepared.items)) (sym told)
    (subst (λ (rs : List Prepared). ArePrepared E w (undecided E rs)) (sym rows) (subst (λ (d : Contents). ArePrepared E d (undecided E c.prepared)) (sym same) are))))
