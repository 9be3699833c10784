-- A row of those that are prepared, and the others beside it.
use Rattle.std.proofs.Common.{◌≡◌, ◌≢◌, ◌∙◌, ◌⊎◌, inl, inr, ℕ, ◌<◌, Bool, true, false, cond, ◌||◌, List, [], ◌∷◌, ◌++◌, filter, map, Some, None, refl, sym, ap, subst}
use Rattle.std.specs.Prelude.{◌==◌, Contains}
use Rattle.std.specs.List.{AllByRecursion}
use Rattle.std.proofs.lemmas.Bool.{cases_Bool, eq-eqb, false≢true}
use Rattle.std.proofs.lemmas.List.Elements.{Contains-append_left, Contains-append_right, Contains-push}
use Rattle.type_table.proofs.Elements.{each-both, each-passes, each-push, each-weaker}
use Rattle.object_trait.specs.declared.event.Event.{Event}
use Rattle.transaction_key.specs.TransactionKey.{key_place}
use Rattle.serial_order.specs.History.{begins, is_open, summary}
use Rattle.serial_order.specs.Operations.{is_among}
use Rattle.serial_order.proofs.Runs.{of_open}
use Rattle.event_text.specs.EventText.{events_of_kinds}
use Rattle.journal.specs.Outcomes.{Outcomes, let_go}
use Rattle.journal.proofs.StaysKnown.{let-go-none}
use Rattle.journal.specs.declared.prepared_row.Prepared.{Prepared}
use Rattle.durable_store.specs.Durable.{kinds}
use Rattle.durable_store.specs.Held.{first_passing, has_number, has_place, prepared_numbers, undecided}
use Rattle.durable_store.proofs.HeldKeys.{first-is, none-passes}
use Rattle.held_votes.proofs.OwnEvents.{AreBeside, began-still, closed-still, open-beside}
use Rattle.held_votes.proofs.SameKinds.{open-same}

-- ---- one of some rows

abbrev pub IsIn : Prepared → List Prepared → Type 0
IsIn p [] = ⊥
IsIn p (q ∷ qs) = (q ≡ p) ⊎ IsIn p qs

pub each-in : (P : Prepared → Type 0) (rows : List Prepared) (p : Prepared) → AllByRecursion P rows → IsIn p rows → P p
each-in P [] p all there = absurd there
each-in P (q ∷ qs) p all (inl is) = subst P is all.0
each-in P (q ∷ qs) p all (inr later) = each-in P qs p all.1 later

pub all-in : (rows : List Prepared) → AllByRecursion (λ q. IsIn q rows) rows
all-in [] = tt
all-in (q ∷ qs) = (inl refl, each-weaker {P = λ r. IsIn r qs} {Q = λ r. IsIn r (q ∷ qs)} (λ r later. inr later) qs (all-in qs))

pub in-front : (rows more : List Prepared) (p : Prepared) → IsIn p rows → IsIn p (rows ++ more)
in-front [] more p there = absurd there
in-front (q ∷ qs) more p (inl is) = inl is
in-front (q ∷ qs) more p (inr later) = inr (in-front qs more p later)

pub in-last : (rows : List Prepared) (p : Prepared) → IsIn p (rows ++ p ∷ [])
in-last [] p = inl refl
in-last (q ∷ qs) p = inr (in-last qs p)

pub in-map : (f : Prepared → Prepared) (rows : List Prepared) (p : Prepared) → IsIn p rows → IsIn (f p) (map f rows)
in-map f [] p there = absurd there
in-map f (q ∷ qs) p (inl is) = inl (ap f is)
in-map f (q ∷ qs) p (inr later) = inr (in-map f qs p later)

pub in-filter : (test : Prepared → Bool) (rows : List Prepared) (p : Prepared) → IsIn p rows → test p ≡ true → IsIn p (filter test rows)
in-filter test [] p there passes = absurd there
in-filter test (q ∷ qs) p (inl is) passes = subst (λ b. IsIn p (cond b (q ∷ filter test qs) (filter test qs))) (sym (ap test is ∙ passes)) (inl is)
in-filter test (q ∷ qs) p (inr later) passes = by (test q) (in-filter test qs p later passes)
  where
    by : (b : Bool) → IsIn p (filter test qs) → IsIn p (cond b (q ∷ filter test qs) (filter test qs))
    by true there = inr there
    by false there = there

pub in-contains : (rows : List Prepared) (p : Prepared) → IsIn p rows → Contains rows p
in-contains [] p there = absurd there
in-contains (q ∷ qs) p (inl is) = subst (Contains (q ∷ qs)) is (Contains-append_left (q ∷ []) qs q (Contains-push [] q))
in-contains (q ∷ qs) p (inr later) = Contains-append_right (q ∷ []) qs p (in-contains qs p later)

or-right : (a b : Bool) → b ≡ true → (a || b) ≡ true
or-right true b it = refl
or-right false b it = it

-- its number is one of theirs
pub in-numbers : (rows : List Prepared) (p : Prepared) → IsIn p rows → is_among (prepared_numbers rows) p.number ≡ true
in-numbers [] p there = absurd there
in-numbers (q ∷ qs) p (inl is) = ap (λ b. b || is_among (prepared_numbers qs) p.number) (eq-eqb q.number p.number (ap (λ (r : Prepared). r.number) is))
in-numbers (q ∷ qs) p (inr later) = or-right (q.number == p.number) (is_among (prepared_numbers qs) p.number) (in-numbers qs p later)

-- what holds of what a filter keeps
each-kept : (P : Prepared → Type 0) (test : Prepared → Bool) (rows : List Prepared) → AllByRecursion P (filter test rows) → AllByRecursion (λ q. test q ≡ true → P q) rows
each-kept P test [] all = tt
each-kept P test (q ∷ qs) all = by (test q) refl all (each-kept P test qs)
  where
    by : (b : Bool) → test q ≡ b → AllByRecursion P (cond b (q ∷ filter test qs) (filter test qs)) → (AllByRecursion P (filter test qs) → AllByRecursion (λ q. test q ≡ true → P q) qs)
        → AllByRecursion (λ q. test q ≡ true → P q) (q ∷ qs)
    by true is kept rest = (λ passes. kept.0, rest kept.1)
    by false fails kept rest = (λ passes. absurd (false≢true (sym fails ∙ passes)), rest kept)

-- ---- who is prepared

-- each row is of a transaction that began
abbrev pub HaveBegun : List Event → List Prepared → Type 0
HaveBegun H rows = AllByRecursion (λ (q : Prepared). q.number < begins H) rows

pub begun-still : (H es : List Event) (rows : List Prepared) → HaveBegun H rows → HaveBegun (H ++ es) rows
begun-still H es rows began = each-weaker (λ (q : Prepared) low. began-still H es q.number low) rows began

-- those whose transactions are open, by what happened
abbrev pub open_rows : List Event → List Prepared → List Prepared
open_rows H rows = undecided (events_of_kinds (kinds H)) rows

-- they are open
pub each-open : (H : List Event) (rows : List Prepared) → AllByRecursion (λ (q : Prepared). is_open (summary H) q.number ≡ true) (open_rows H rows)
each-open H rows =
    each-passes (λ (q : Prepared). is_open (summary H) q.number ≡ true) (λ (q : Prepared). is_open (summary (events_of_kinds (kinds H))) q.number) rows
    (each-weaker {P = λ q. IsIn q rows} {Q = λ (q : Prepared). is_open (summary (events_of_kinds (kinds H))) q.number ≡ true → is_open (summary H) q.number ≡ true}
    (λ q there passes. sym (open-same H q.number) ∙ passes) rows (all-in rows))

-- ---- a row that is alone

-- another row has nothing of this one's: its transaction has ended, or it is the same, or it has another number and another place
abbrev pub IsBesideRow : List Event → Prepared → Prepared → Type 0
IsBesideRow H p q = (is_open (summary H) q.number ≡ false) ⊎ ((q ≡ p) ⊎ ((q.number ≢ p.number) × (key_place q.key ≢ key_place p.key)))

-- this row is one of these, its transaction is open, nothing is kept at the place of its key, and the others are beside it
pub record Holds (H : List Event) (rows : List Prepared) (outcomes : Outcomes) (p : Prepared) : Type 0 where
  pub there : IsIn p rows
  pub opened : is_open (summary H) p.number ≡ true
  pub free : outcomes.at (key_place p.key) ≡ None
  pub alone : AllByRecursion (IsBesideRow H p) rows

module _ (H : List Event) (rows : List Prepared) (outcomes : Outcomes) (p : Prepared) (holds : Holds H rows outcomes p) where
  -- it is prepared
  pub holds-prepared : IsIn p (open_rows H rows)
  holds-prepared = in-filter (λ (q : Prepared). is_open (summary (events_of_kinds (kinds H))) q.number) rows p holds.there (open-same H p.number ∙ holds.opened)

  pub holds-among : is_among (prepared_numbers (open_rows H rows)) p.number ≡ true
  holds-among = in-numbers (open_rows H rows) p holds-prepared

  pub holds-began : p.number < begins H
  holds-began = (of_open (summary H) p.number holds.opened).began

  -- and so are others beside it
  pub each-beside : AllByRecursion (λ (q : Prepared). IsBesideRow H p q × (is_open (summary H) q.number ≡ true)) (open_rows H rows)
  each-beside =
      each-passes (λ (q : Prepared). IsBesideRow H p q × (is_open (summary H) q.number ≡ true)) (λ (q : Prepared). is_open (summary (events_of_kinds (kinds H))) q.number) rows
      (each-weaker {P = IsBesideRow H p} {Q = λ (q : Prepared). is_open (summary (events_of_kinds (kinds H))) q.number ≡ true → IsBesideRow H p q × (is_open (summary H) q.number ≡ true)}
      (λ q beside passes. (beside, sym (open-same H q.number) ∙ passes)) rows holds.alone)

  -- whom a test finds of those
  pub found-beside : (test : Prepared → Bool) (q : Prepared) → first_passing test (open_rows H rows) ≡ Some q → (IsBesideRow H p q × (is_open (summary H) q.number ≡ true)) × (test q ≡ true)
  found-beside test q found = first-is (λ (q : Prepared). IsBesideRow H p q × (is_open (summary H) q.number ≡ true)) test (open_rows H rows) q each-beside found

  -- it fails a test that none of them passes
  pub fails-none : (test : Prepared → Bool) → first_passing test (open_rows H rows) ≡ None → test p ≡ false
  fails-none test none = each-in (λ q. test q ≡ false) (open_rows H rows) p (none-passes test (open_rows H rows) none) holds-prepared

  -- so a free key has another place
  pub place-apart : (key : List ℕ) → first_passing (has_place key) (open_rows H rows) ≡ None → key_place p.key ≢ key_place key
  place-apart key none = λ same. false≢true (sym (fails-none (has_place key) none) ∙ eq-eqb (key_place p.key) (key_place key) same)

  pub number-apart : (n : ℕ) → first_passing (has_number n) (open_rows H rows) ≡ None → p.number ≢ n
  number-apart n none = λ same. false≢true (sym (fails-none (has_number n) none) ∙ eq-eqb p.number n same)

  -- ---- what it goes through

  -- events that don't concern it
  pub holds-beside : (es : List Event) → HaveBegun H rows → AreBeside p.number es → Holds (H ++ es) rows outcomes p
  holds-beside es began beside = record {
    there = holds.there;
    opened = open-beside H es p.number holds-began beside ∙ holds.opened;
    free = holds.free;
    alone = each-both {P = λ (q : Prepared). q.number < begins H} {Q = IsBesideRow H p} {S = IsBesideRow (H ++ es) p}
        (λ q low its. elim its [ inl closed ↦ inl (closed-still H es q.number low closed) | inr other ↦ inr other ]) rows began holds.alone;
  }

  -- a row more, of another number and another place
  pub holds-more : (q : Prepared) → q.number ≢ p.number → key_place q.key ≢ key_place p.key → Holds H (rows ++ q ∷ []) outcomes p
  holds-more q number place = record {
    there = in-front rows (q ∷ []) p holds.there;
    opened = holds.opened;
    free = holds.free;
    alone = each-push (IsBesideRow H p) rows q holds.alone (inr (inr (number, place)));
  }

  -- outcomes more, at other places
  pub holds-kept : (now : Outcomes) → now.at (key_place p.key) ≡ None → Holds H rows now p
  holds-kept now free = record { there = holds.there; opened = holds.opened; free = free; alone = holds.alone }

  -- where some are let go
  pub holds-let-go : Holds H rows (let_go outcomes) p
  holds-let-go = holds-kept (let_go outcomes) (let-go-none outcomes (key_place p.key) holds.free)

-- ---- a new row

-- an open transaction of a number and a place that nobody has who is prepared
pub holds-new : (H : List Event) (rows : List Prepared) (outcomes : Outcomes) (p : Prepared) → is_open (summary H) p.number ≡ true → outcomes.at (key_place p.key) ≡ None
    → first_passing (has_number p.number) (open_rows H rows) ≡ None → first_passing (has_place p.key) (open_rows H rows) ≡ None → Holds H (rows ++ p ∷ []) outcomes p
holds-new H rows outcomes p opened free no_number no_place = record {
  there = in-last rows p;
  opened = opened;
  free = free;
  alone = each-push (IsBesideRow H p) rows p others (inr (inl refl));
}
  where
    test : Prepared → Bool
    test q = is_open (summary (events_of_kinds (kinds H))) q.number

    apart : AllByRecursion (λ (q : Prepared). test q ≡ true → (has_number p.number q ≡ false) × (has_place p.key q ≡ false)) rows
    apart =
        each-kept (λ q. (has_number p.number q ≡ false) × (has_place p.key q ≡ false)) test rows
        (each-both {P = λ q. has_number p.number q ≡ false} {Q = λ q. has_place p.key q ≡ false} {S = λ q. (has_number p.number q ≡ false) × (has_place p.key q ≡ false)} (λ q number place. (number, place)) (open_rows H rows)
        (none-passes (has_number p.number) (open_rows H rows) no_number) (none-passes (has_place p.key) (open_rows H rows) no_place))

    others : AllByRecursion (IsBesideRow H p) rows
    others = each-weaker {P = λ (q : Prepared). test q ≡ true → (has_number p.number q ≡ false) × (has_place p.key q ≡ false)} {Q = IsBesideRow H p}
        (λ q its. elim (cases_Bool (is_open (summary H) q.number)) [
          | inl going ↦ (let it = its (open-same H q.number ∙ going) in
              inr (inr (λ same. false≢true (sym it.0 ∙ eq-eqb q.number p.number same), λ same. false≢true (sym it.1 ∙ eq-eqb (key_place q.key) (key_place p.key) same))))
          | inr closed ↦ inl closed
        ]) rows apart
