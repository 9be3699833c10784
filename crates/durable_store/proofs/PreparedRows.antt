-- Rows of who is prepared: those that a store may have written.
use Rattle.std.proofs.Common.{◌≡◌, ◌≢◌, ◌∙◌, ℕ, ◌+◌, ◌<◌, ◌≤◌, Bool, true, false, cond, List, [], ◌∷◌, ◌++◌, length, take, drop, Some, None, slice_get, sym, ap, subst, inl, inr, refl, append_assoc}
use Rattle.std.specs.List.{AllByRecursion}
use Rattle.std.proofs.lemmas.Bool.{cases_Bool, eq-eqb, eqb-true, false≢true}
use Rattle.std.proofs.lemmas.List.{take-append-drop, take_all}
use Rattle.std.proofs.lemmas.List.Elements.{filter-append}
use Rattle.type_table.proofs.Elements.{each-found, each-push, each-weaker, take-found}
use Rattle.sqlite_trees.specs.declared.store.Store.{Ghosts}
use Rattle.sqlite_trees.specs.Tree.{Trees}
use Rattle.transaction_key.specs.TransactionKey.{key_place}
use Rattle.object_trait.specs.Orders.{Pairs}
use Rattle.object_trait.specs.declared.event.Event.{Event}
use Rattle.object_trait.proofs.Lists.{pairs-push}
use Rattle.serial_order.specs.History.{begins, is_open, summary}
use Rattle.serial_order.proofs.Lists.{filter-apart, filter-more}
use Rattle.serial_order.proofs.Pairs.{each-rest}
use Rattle.journal.specs.declared.prepared_row.Prepared.{Prepared}
use Rattle.journal.specs.declared.journal.Journal.{Journal}
use Rattle.journal.specs.Contents.{Contents}
use Rattle.journal.specs.Journal.{Clean, IsJournal, durable, may_leave, written}
use Rattle.durable_store.specs.Held.{ArePrepared, first_passing, has_place, undecided}

-- ---- the first one that passes

none-passes : (test : Prepared → Bool) (ps : List Prepared) → first_passing test ps ≡ None → AllByRecursion (λ (p : Prepared). test p ≡ false) ps
none-passes test [] none = tt
none-passes test (p ∷ ps) none =
    elim (cases_Bool (test p)) [
      | inl is ↦ (let found = rw is at none in absurd cc)
      | inr other ↦ (other, none-passes test ps (rw other at none))
    ]

passes-none : (test : Prepared → Bool) (ps : List Prepared) → AllByRecursion (λ (p : Prepared). test p ≡ false) ps → first_passing test ps ≡ None
passes-none test [] all = refl
passes-none test (p ∷ ps) all = rw all.0 (passes-none test ps all.1)

-- ---- one row more

-- it is of an open transaction
pub rows-open : (H : List Event) (said : List Prepared) (i : ℕ) (row : Prepared) (now : List Prepared) → slice_get said i ≡ Some row → is_open (summary H) row.number ≡ true → now ≡ undecided H (take i said)
    → now ++ row ∷ [] ≡ undecided H (take (i + 1) said)
rows-open H said i row now there open_now are =
    ap (λ rs. rs ++ row ∷ []) are ∙ sym (ap (undecided H) (take-found said i row there) ∙ filter-more (λ (p : Prepared). is_open (summary H) p.number) (take i said) row open_now)

-- or not
pub rows-closed : (H : List Event) (said : List Prepared) (i : ℕ) (row : Prepared) (now : List Prepared) → slice_get said i ≡ Some row → is_open (summary H) row.number ≡ false → now ≡ undecided H (take i said)
    → now ≡ undecided H (take (i + 1) said)
rows-closed H said i row now there closed are =
    are ∙ sym (ap (undecided H) (take-found said i row there) ∙ filter-apart (λ (p : Prepared). is_open (summary H) p.number) (take i said) row closed)

-- it began
pub began-more : (n : ℕ) (said : List Prepared) (i : ℕ) (row : Prepared) → slice_get said i ≡ Some row → row.number < n → AllByRecursion (λ (p : Prepared). p.number < n) (take i said)
    → AllByRecursion (λ (p : Prepared). p.number < n) (take (i + 1) said)
began-more n said i row there low all = subst (AllByRecursion (λ (p : Prepared). p.number < n)) (sym (take-found said i row there)) (each-push (λ (p : Prepared). p.number < n) (take i said) row all low)

-- nobody has its place
pub apart-more : (ps : List Prepared) (row : Prepared) → first_passing (has_place row.key) ps ≡ None → Pairs (λ (p q : Prepared). key_place p.key ≢ key_place q.key) ps
    → Pairs (λ (p q : Prepared). key_place p.key ≢ key_place q.key) (ps ++ row ∷ [])
apart-more ps row none pairs =
    let differ : (p : Prepared) → has_place row.key p ≡ false → key_place p.key ≢ key_place row.key = λ p other same. false≢true (sym other ∙ eq-eqb (key_place p.key) (key_place row.key) same) in
    pairs-push (λ (p q : Prepared). key_place p.key ≢ key_place q.key) ps row pairs (each-weaker differ ps (none-passes (has_place row.key) ps none))

-- all of them
pub rows-all : (H : List Event) (c : Contents) (said : List Prepared) (i : ℕ) (now : List Prepared) → length said ≤ i → said ≡ c.prepared → now ≡ undecided H (take i said)
    → AllByRecursion (λ (p : Prepared). p.number < begins H) (take i said) → Pairs (λ (p q : Prepared). key_place p.key ≢ key_place q.key) now
    → AllByRecursion (λ (p : Prepared). c.outcomes.at (key_place p.key) ≡ None) now → ArePrepared H c now
rows-all H c said i now many same are began apart free =
    let whole : take i said ≡ c.prepared = take_all i said many ∙ same in
    record {
      begun = subst (AllByRecursion (λ (p : Prepared). p.number < begins H)) whole began;
      are = are ∙ ap (undecided H) whole;
      apart = apart;
      free = free;
    }

-- ---- how far they are read

-- these were read, and their places looked up in a journal, which changed nothing
pub record AreRead {S : Type 0} (g : Ghosts S) (H : List Event) (said : List Prepared) (first : Journal S) (i : ℕ) (now : Journal S) (ps : List Prepared) : Type 0 where
  pub rows : ps ≡ undecided H (take i said)
  pub began : AllByRecursion (λ (p : Prepared). p.number < begins H) (take i said)
  pub apart : Clean g now → Pairs (λ (p q : Prepared). key_place p.key ≢ key_place q.key) ps
  pub free : Clean g now → AllByRecursion (λ (p : Prepared). (written g first).outcomes.at (key_place p.key) ≡ None) ps
  pub kept : IsJournal g now
  pub written : Clean g now → written g now ≡ written g first
  pub durable : Clean g now → durable g now ≡ durable g first
  pub header : now.header ≡ first.header
  pub clean : Clean g now → Clean g first
  pub crash : (db : Trees) → may_leave g now db → may_leave g first db

-- one more, of a transaction that isn't open
pub read-closed : {S : Type 0} (g : Ghosts S) (H : List Event) (said : List Prepared) (first : Journal S) (i : ℕ) (now : Journal S) (ps : List Prepared) (row : Prepared) → AreRead g H said first i now ps → slice_get said i ≡ Some row
    → row.number < begins H → is_open (summary H) row.number ≡ false → AreRead g H said first (i + 1) now ps
read-closed g H said first i now ps row so_far there low closed = record {
  rows = rows-closed H said i row ps there closed so_far.rows;
  began = began-more (begins H) said i row there low so_far.began;
  apart = so_far.apart;
  free = so_far.free;
  kept = so_far.kept;
  written = so_far.written;
  durable = so_far.durable;
  header = so_far.header;
  clean = so_far.clean;
  crash = so_far.crash;
}

-- or of one that is, and has its place alone
pub read-open : {S : Type 0} (g : Ghosts S) (H : List Event) (said : List Prepared) (first : Journal S) (i : ℕ) (now next : Journal S) (ps qs : List Prepared) (row : Prepared) → AreRead g H said first i now ps
    → slice_get said i ≡ Some row → row.number < begins H → is_open (summary H) row.number ≡ true → qs ≡ ps ++ row ∷ []
    → (Clean g next → (first_passing (has_place row.key) ps ≡ None) × ((written g now).outcomes.at (key_place row.key) ≡ None)) → IsJournal g next
    → (Clean g next → written g next ≡ written g now) → (Clean g next → durable g next ≡ durable g now) → next.header ≡ now.header → (Clean g next → Clean g now)
    → ((db : Trees) → may_leave g next db → may_leave g now db) → AreRead g H said first (i + 1) next qs
read-open g H said first i now next ps qs row so_far there low open_now more own kept same lasts header was crash = record {
  rows = more ∙ rows-open H said i row ps there open_now so_far.rows;
  began = began-more (begins H) said i row there low so_far.began;
  apart = λ clean. subst (Pairs (λ (p q : Prepared). key_place p.key ≢ key_place q.key)) (sym more) (apart-more ps row (own clean).0 (so_far.apart (was clean)));
  free = λ clean.
      let place : (written g first).outcomes.at (key_place row.key) ≡ None = ap (λ (c : Contents). c.outcomes.at (key_place row.key)) (sym (so_far.written (was clean))) ∙ (own clean).1 in
      subst (AllByRecursion (λ (p : Prepared). (written g first).outcomes.at (key_place p.key) ≡ None)) (sym more)
      (each-push (λ (p : Prepared). (written g first).outcomes.at (key_place p.key) ≡ None) ps row (so_far.free (was clean)) place);
  kept = kept;
  written = λ clean. same clean ∙ so_far.written (was clean);
  durable = λ clean. lasts clean ∙ so_far.durable (was clean);
  header = header ∙ so_far.header;
  clean = λ clean. so_far.clean (was clean);
  crash = λ db left. so_far.crash db (crash db left);
}

-- ---- rows of a store

-- each transaction began
pub row-began : (H : List Event) (c : Contents) (said ps : List Prepared) (i : ℕ) (row : Prepared) → slice_get said i ≡ Some row → said ≡ c.prepared → ArePrepared H c ps → row.number < begins H
row-began H c said ps i row there same are = each-found (λ (p : Prepared). p.number < begins H) c.prepared i row are.begun (subst (λ rs. slice_get rs i ≡ Some row) same there)

-- what is before one
before-one : (R : Prepared → Prepared → Type 0) (A : List Prepared) (x : Prepared) (B : List Prepared) → Pairs R (A ++ x ∷ B) → AllByRecursion (λ a. R a x) A
before-one R [] x B pairs = tt
before-one R (a ∷ A) x B pairs = ((each-rest (R a) A (x ∷ B) pairs.0).0, before-one R A x B pairs.1)

split-at : (V : List Prepared) (i : ℕ) (x : Prepared) → slice_get V i ≡ Some x → V ≡ take i V ++ x ∷ drop (i + 1) V
split-at V i x there = sym (take-append-drop (i + 1) V) ∙ ap (λ W. W ++ drop (i + 1) V) (take-found V i x there) ∙ append_assoc (take i V) (x ∷ []) (drop (i + 1) V)

other-place : (key : List ℕ) (p : Prepared) → key_place p.key ≢ key_place key → has_place key p ≡ false
other-place key p differ =
    elim (cases_Bool (has_place key p)) [
      | inl is ↦ absurd (differ (eqb-true (key_place p.key) (key_place key) is))
      | inr other ↦ other
    ]

-- and an open one has a place of its own
pub own-place : (H : List Event) (c : Contents) (said : List Prepared) (i : ℕ) (row : Prepared) (now : List Prepared) → slice_get said i ≡ Some row → is_open (summary H) row.number ≡ true → now ≡ undecided H (take i said)
    → ArePrepared H c (undecided H said) → (first_passing (has_place row.key) now ≡ None) × (c.outcomes.at (key_place row.key) ≡ None)
own-place H c said i row now there open_now are prepared =
    let behind = drop (i + 1) said in
    let all : undecided H said ≡ now ++ row ∷ undecided H behind =
    ap (undecided H) (split-at said i row there) ∙ filter-append (λ (p : Prepared). is_open (summary H) p.number) (take i said) (row ∷ behind)
    ∙ ap (λ b. undecided H (take i said) ++ cond b (row ∷ undecided H behind) (undecided H behind)) open_now ∙ ap (λ rs. rs ++ row ∷ undecided H behind) (sym are) in
    let pairs = subst (Pairs (λ (p q : Prepared). key_place p.key ≢ key_place q.key)) all prepared.apart in
    let free = subst (AllByRecursion (λ (p : Prepared). c.outcomes.at (key_place p.key) ≡ None)) all prepared.free in (
      passes-none (has_place row.key) now
          (each-weaker (λ (p : Prepared) differ. other-place row.key p differ) now (before-one (λ (p q : Prepared). key_place p.key ≢ key_place q.key) now row (undecided H behind) pairs)),
      (each-rest (λ (p : Prepared). c.outcomes.at (key_place p.key) ≡ None) now (row ∷ undecided H behind) free).0,
    )
