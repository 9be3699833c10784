-- Keys under which transactions are prepared.
use Rattle.std.proofs.Common.{◌≡◌, ◌≢◌, ◌↔◌, ◌∙◌, ℕ, ◌<◌, Bool, true, false, cond, not, if◌then◌else◌, List, [], ◌∷◌, ◌++◌, filter, Some, None, inl, inr, refl, sym, ap, subst}
use Rattle.std.specs.Prelude.{Vec, ◌==◌}
use Rattle.std.specs.declared.alloc.Global.{Global}
use Rattle.std.specs.List.{AllByRecursion}
use Rattle.std.proofs.lemmas.Bool.{cases_Bool, eq-eqb, eqb-true, false≢true}
use Rattle.std.proofs.lemmas.Option.{same_Some}
use Rattle.std.proofs.lemmas.Slice.Eq.{bytes_eq-Decides}
use Rattle.sqlite_trees.specs.Tree.{Trees}
use Rattle.sqlite_trees.specs.declared.store.Store.{Ghosts}
use Rattle.type_table.proofs.Elements.{each-both, each-filter, each-passes, each-push, each-weaker}
use Rattle.object_trait.specs.Orders.{Pairs}
use Rattle.object_trait.proofs.Lists.{pairs-push}
use Rattle.object_trait.specs.declared.event.Event.{Event}
use Rattle.transaction_key.specs.TransactionKey.{key_place}
use Rattle.serial_order.specs.History.{begins, is_open, summary}
use Rattle.serial_order.specs.Operations.{is_among}
use Rattle.serial_order.proofs.Lists.{filter-more}
use Rattle.serial_order.proofs.Runs.{of_open}
use Rattle.event_text.specs.EventText.{events_of_kinds}
use Rattle.journal.specs.declared.outcome_row.KeyedOutcome.{KeyedOutcome}
use Rattle.journal.specs.declared.outcome_row.Outcome.{Outcome}
use Rattle.journal.specs.declared.prepared_row.Prepared.{Prepared}
use Rattle.journal.specs.Contents.{Contents, with_outcome, with_prepared}
use Rattle.journal.specs.Outcomes.{Outcomes}
use Rattle.journal.specs.Journal.{Clean, IsJournal, durable, may_leave, written}
use Rattle.carried_orders.specs.Orders.{AreStrong}
use Rattle.store.specs.Retraces.{IsTracedHistory}
use Rattle.store_laws.specs.Stored.{Stored}
use Rattle.durable_store.specs.declared.durable.Durable.{Durable}
use Rattle.durable_store.specs.Durable.{IsDurable, prepared_in, is_prepared}
use Rattle.durable_store.specs.Held.{ArePrepared, but_number, first_passing, has_key, has_place, prepared_numbers, undecided}
use Rattle.durable_store.specs.declared.keyed.KeyState.{KeyState}
use Rattle.durable_store.specs.declared.keyed.KeyState.TheVariants as state
use Rattle.durable_store.specs.Keys.{IsFree, IsInState, IsPreparedUnder, outcome_for, outcome_under}
use Rattle.durable_store.specs.Names.{IndexesNames}
use Rattle.durable_store.specs.Types.{HasTypes}

-- who is prepared is what the file says
pub held-is : {S : Type 0} (g : Ghosts S) (d : Durable S) → IsDurable g d → Clean g d.journal → prepared_in (written g d.journal) ≡ d.prepared.items
held-is g d sound clean = ap (λ H. undecided H (written g d.journal).prepared) (sym (sound.history clean)) ∙ sym ((sound.prepared clean).are)

-- ---- the first that passes

-- where there is none, none passes
pub none-passes : (test : Prepared → Bool) (ps : List Prepared) → first_passing test ps ≡ None → AllByRecursion (λ (p : Prepared). test p ≡ false) ps
none-passes test [] none = tt
none-passes test (p ∷ ps) none = by (test p) refl none (none-passes test ps)
  where
    by : (b : Bool) → test p ≡ b → (if b then Some p else first_passing test ps) ≡ None → (first_passing test ps ≡ None → AllByRecursion (λ (p : Prepared). test p ≡ false) ps)
        → AllByRecursion (λ (p : Prepared). test p ≡ false) (p ∷ ps)
    by true is none rest = absurd cc
    by false is none rest = (is, rest none)

-- and the converse
pub first-none : (test : Prepared → Bool) (ps : List Prepared) → AllByRecursion (λ (p : Prepared). test p ≡ false) ps → first_passing test ps ≡ None
first-none test [] each = refl
first-none test (p ∷ ps) each = ap (λ b. if b then Some p else first_passing test ps) each.0 ∙ first-none test ps each.1

-- what holds of each holds of the first that passes, which passes
pub first-is : (P : Prepared → Type 0) (test : Prepared → Bool) (ps : List Prepared) (p : Prepared) → AllByRecursion P ps → first_passing test ps ≡ Some p → P p × (test p ≡ true)
first-is P test [] p each found = absurd cc
first-is P test (q ∷ ps) p each found = by (test q) refl found (first-is P test ps p each.1)
  where
    by : (b : Bool) → test q ≡ b → (if b then Some q else first_passing test ps) ≡ Some p → (first_passing test ps ≡ Some p → P p × (test p ≡ true)) → P p × (test p ≡ true)
    by true is found rest = subst (λ (p : Prepared). P p × (test p ≡ true)) (same_Some q p found) (each.0, is)
    by false is found rest = rest found

-- what a filter keeps passes
passing : (test : Prepared → Bool) (ps : List Prepared) → AllByRecursion (λ (p : Prepared). test p ≡ true) (filter test ps)
passing test ps = each-passes (λ (p : Prepared). test p ≡ true) test ps (each-yes test ps)
  where
    each-yes : (test : Prepared → Bool) (ps : List Prepared) → AllByRecursion (λ (p : Prepared). test p ≡ true → test p ≡ true) ps
    each-yes test [] = tt
    each-yes test (p ∷ ps) = (λ is. is, each-yes test ps)

-- each of those that are prepared is open
pub first-open : (H : List Event) (c : Contents) (ps : List Prepared) (test : Prepared → Bool) (p : Prepared) → ArePrepared H c ps → first_passing test ps ≡ Some p → is_open (summary H) p.number ≡ true
first-open H c ps test p are found =
    (first-is (λ (p : Prepared). is_open (summary H) p.number ≡ true) test ps p
    (subst (AllByRecursion (λ (p : Prepared). is_open (summary H) p.number ≡ true)) (sym are.are) (passing (λ (p : Prepared). is_open (summary H) p.number) c.prepared)) found).0

-- ---- keys

-- of one key, of one place
pub same-key : (key : List ℕ) (p : Prepared) → has_key key p ≡ true → key_place p.key ≡ key_place key
same-key key p is = ap key_place ((bytes_eq-Decides p.key key).0 is)

pub same-place : (key : List ℕ) (p : Prepared) → has_key key p ≡ true → has_place key p ≡ true
same-place key p is = eq-eqb (key_place p.key) (key_place key) (same-key key p is)

-- other places
apart-false : (a b : ℕ) → a ≢ b → (a == b) ≡ false
apart-false a b apart = elim (cases_Bool (a == b)) [
  | inl is ↦ absurd (apart (eqb-true a b is))
  | inr other ↦ other
]

false-apart : (a b : ℕ) → (a == b) ≡ false → a ≢ b
false-apart a b other = λ same. false≢true (sym other ∙ eq-eqb a b same)

-- where one is prepared under the key, no other has its place
pub others-apart : (key : List ℕ) (t : ℕ) (ps : List Prepared) (p : Prepared) → Pairs (λ (p q : Prepared). key_place p.key ≢ key_place q.key) ps → first_passing (has_key key) ps ≡ Some p → p.number ≡ t
    → AllByRecursion (λ (q : Prepared). has_place key q ≡ false) (but_number t ps)
others-apart key t [] p apart found is = tt
others-apart key t (q ∷ ps) p apart found is = by (has_key key q) refl found (others-apart key t ps p apart.1)
  where
    P : Prepared → Type 0
    P r = has_place key r ≡ false

    keeps : (b : Bool) (rest : List Prepared) → (b ≡ true → P q) → AllByRecursion P rest → AllByRecursion P (cond b (q ∷ rest) rest)
    keeps true rest here there = (here refl, there)
    keeps false rest here there = there

    by : (b : Bool) → has_key key q ≡ b → (if b then Some q else first_passing (has_key key) ps) ≡ Some p → (first_passing (has_key key) ps ≡ Some p → p.number ≡ t → AllByRecursion P (but_number t ps))
        → AllByRecursion P (but_number t (q ∷ ps))
    by true mine found rest =
        let number : q.number ≡ t = ap (λ (p : Prepared). p.number) (same_Some q p found) ∙ is in
        keeps (not (q.number == t)) (but_number t ps) (λ other. absurd (false≢true (sym (ap not (eq-eqb q.number t number)) ∙ other)))
        (each-filter P (λ (r : Prepared). not (r.number == t)) ps
        (each-weaker {P = λ (r : Prepared). key_place q.key ≢ key_place r.key} {Q = P}
        (λ r other. apart-false (key_place r.key) (key_place key) (λ same. other (same-key key q mine ∙ sym same))) ps apart.0))
    by false mine found rest =
        let its = first-is (λ (r : Prepared). key_place q.key ≢ key_place r.key) (has_key key) ps p apart.0 found in
        keeps (not (q.number == t)) (but_number t ps) (λ other. apart-false (key_place q.key) (key_place key) (λ same. its.0 (same ∙ sym (same-key key p its.1)))) (rest found is)

-- ---- one more, and an outcome more

-- an open transaction is prepared under a key whose place nobody has
pub prepared-more : (H : List Event) (c : Contents) (ps : List Prepared) (p : Prepared) → ArePrepared H c ps → is_open (summary H) p.number ≡ true → first_passing (has_place p.key) ps ≡ None
    → c.outcomes.at (key_place p.key) ≡ None → ArePrepared H (with_prepared c p) (ps ++ p ∷ [])
prepared-more H c ps p are opened alone free = record {
  begun = each-push (λ (q : Prepared). q.number < begins H) c.prepared p are.begun ((of_open (summary H) p.number opened).began);
  are = ap (λ qs. qs ++ p ∷ []) are.are ∙ sym (filter-more (λ (q : Prepared). is_open (summary H) q.number) c.prepared p opened);
  apart = pairs-push (λ (p q : Prepared). key_place p.key ≢ key_place q.key) ps p are.apart
      (each-weaker {P = λ (q : Prepared). has_place p.key q ≡ false} {Q = λ (q : Prepared). key_place q.key ≢ key_place p.key} (λ q other. false-apart (key_place q.key) (key_place p.key) other) ps (none-passes (has_place p.key) ps alone));
  free = each-push (λ (q : Prepared). c.outcomes.at (key_place q.key) ≡ None) ps p are.free free;
}

-- an outcome is kept at the place of nobody who is prepared
pub prepared-kept : (H : List Event) (c : Contents) (ps : List Prepared) (o : KeyedOutcome) → first_passing (has_place o.key) ps ≡ None → ArePrepared H c ps → ArePrepared H (with_outcome c o) ps
prepared-kept H c ps o alone are = record {
  begun = are.begun;
  are = are.are;
  apart = are.apart;
  free = each-both {P = λ (p : Prepared). has_place o.key p ≡ false} {Q = λ (p : Prepared). c.outcomes.at (key_place p.key) ≡ None} {S = λ (p : Prepared). (with_outcome c o).outcomes.at (key_place p.key) ≡ None}
      (λ p other none. ap (λ b. if b then Some o else c.outcomes.at (key_place p.key)) other ∙ none) ps (none-passes (has_place o.key) ps alone) are.free;
}

-- ---- a store whose file has other rows of who is prepared, or another outcome

pub still-sound : {S : Type 0} (g : Ghosts S) (d now : Durable S) (rows : List Prepared) (outcomes : Outcomes) → IsDurable g d → now.store ≡ d.store → now.names ≡ d.names → now.strong ≡ d.strong → IsJournal g now.journal
    → (Clean g now.journal → written g now.journal ≡ record (written g d.journal) { prepared = rows; outcomes = outcomes }) → (Clean g now.journal → durable g now.journal ≡ durable g d.journal)
    → (Clean g now.journal → Clean g d.journal) → ((db : Trees) → may_leave g now.journal db → may_leave g d.journal db)
    → (Clean g d.journal → ArePrepared d.store.history (record (written g d.journal) { prepared = rows; outcomes = outcomes }) now.prepared.items) → IsDurable g now
still-sound g d now rows outcomes sound store names known kept is same was crash are = record {
  journal = kept;
  history = λ clean. ap (λ (s : Stored). s.history) store ∙ sound.history (was clean) ∙ ap (λ (c : Contents). events_of_kinds c.events) (sym (is clean));
  types = λ clean.
      subst (λ (c : Contents). HasTypes c now.store.types) (sym (is clean))
      (subst (λ (s : Stored). HasTypes (record (written g d.journal) { prepared = rows; outcomes = outcomes }) s.types) (sym store) (sound.types (was clean)));
  settled = λ clean db left. sound.settled (was clean) db (crash db left) ∙ sym (same clean);
  limit = ap (λ (s : Stored). s.limits) store ∙ sound.limit;
  own = subst IsTracedHistory (sym store) sound.own;
  named = λ clean.
      subst (λ (c : Contents). IndexesNames c.objects now.names) (sym (is clean)) (subst (IndexesNames (written g d.journal).objects) (sym names) (sound.named (was clean)));
  prepared = λ clean.
      subst (λ (c : Contents). ArePrepared now.store.history c now.prepared.items) (sym (is clean))
      (subst (λ (s : Stored). ArePrepared s.history (record (written g d.journal) { prepared = rows; outcomes = outcomes }) now.prepared.items) (sym store) (are (was clean)));
  strong = subst (λ b. (b ≡ true) ↔ AreStrong now.store.types) (sym known) (subst (λ (s : Stored). (d.strong ≡ true) ↔ AreStrong s.types) (sym store) sound.strong);
}

-- ---- what is known of a key

-- the same transactions
pub same-prepared : {S : Type 0} (old new : Durable S) (t : ℕ) → new.prepared ≡ old.prepared → is_prepared new t ≡ is_prepared old t
same-prepared old new t same = ap (λ (ps : Vec Prepared Global). is_among (prepared_numbers ps.items) t) same

-- nobody has the place of a free key
pub free-of : {S : Type 0} (g : Ghosts S) (d : Durable S) (key : List ℕ) → IsDurable g d → Clean g d.journal → IsFree (written g d.journal) key → first_passing (has_place key) d.prepared.items ≡ None
free-of g d key sound clean free = subst (λ ps. first_passing (has_place key) ps ≡ None) (held-is g d sound clean) free.1

-- nothing is kept at the place of one who is prepared
place-free : {S : Type 0} (g : Ghosts S) (d : Durable S) (key : List ℕ) (p : Prepared) → IsDurable g d → Clean g d.journal → first_passing (has_place key) (prepared_in (written g d.journal)) ≡ Some p
    → (written g d.journal).outcomes.at (key_place key) ≡ None
place-free g d key p sound clean found =
    let c = written g d.journal in
    let its = first-is (λ (p : Prepared). c.outcomes.at (key_place p.key) ≡ None) (has_place key) d.prepared.items p (sound.prepared clean).free (subst (λ ps. first_passing (has_place key) ps ≡ Some p) (held-is g d sound clean) found) in
    subst (λ n. c.outcomes.at n ≡ None) (eqb-true (key_place p.key) (key_place key) its.1) its.0

-- a key that isn't known says nothing
pub unknown-else : {S : Type 0} (g : Ghosts S) (d : Durable S) (key : List ℕ) (known : KeyState) → IsDurable g d → Clean g d.journal → IsInState (written g d.journal) key known
    → ((o : Outcome) → known ≡ state.Known o → ⊥) → None ≡ outcome_under (written g d.journal) key
unknown-else g d key state.Free sound clean its other = ap (outcome_for key) (sym its.0)
unknown-else g d key (state.Known o) sound clean its other = absurd (other o refl)
unknown-else g d key state.Prepared sound clean its other = ap (outcome_for key) (sym (place-free g d key its.0 sound clean its.1))
unknown-else g d key state.Taken sound clean its other = elim its [
  | inl one ↦ sym (ap (outcome_for key) one.1 ∙ ap (λ b. cond b (Some (one.0).outcome) None) one.2)
  | inr one ↦ ap (outcome_for key) (sym (place-free g d key one.0 sound clean one.1))
]

-- where none is under the key, nobody is prepared under it
pub nobody-under : {S : Type 0} (g : Ghosts S) (d : Durable S) (key : List ℕ) → IsDurable g d → Clean g d.journal → first_passing (has_key key) d.prepared.items ≡ None → IsPreparedUnder (written g d.journal) key → ⊥
nobody-under g d key sound clean none its =
    let ps = d.prepared.items in
    let it = first-is (λ (p : Prepared). has_key key p ≡ false) (has_place key) ps its.0 (none-passes (has_key key) ps none) (subst (λ ps. first_passing (has_place key) ps ≡ Some its.0) (held-is g d sound clean) its.1) in
    false≢true (sym it.0 ∙ its.2)
