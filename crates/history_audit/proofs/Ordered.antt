-- Orders of committed transactions: one more, which are there, and why one may not be asked for.
use Rattle.std.proofs.Common.{◌≡◌, ℕ, ◌+◌, ◌<◌, ◌≤◌, Bool, true, false, ◌||◌, ◌==◌, List, [], ◌∷◌, ◌++◌, length, take, set, get_or, Option, Some, None, Result, Ok, Err, slice_get, is_some, zero, suc, option_map, MatchOption, MatchResult, IfOk, IfErr, nat_lt, refl, sym, ap, subst, ◌∙◌, inl, inr, arith, add-one, replicate}
use Rattle.std.specs.Prelude.{min, unwrap_or}
use Rattle.std.proofs.lemmas.Bool.Decides.{nat_tests}
use Rattle.std.specs.List.{AllByRecursion}
use Rattle.std.proofs.lemmas.Bool.{cases_Bool, eqb-true, eq-eqb, false≢true}
use Rattle.std.proofs.lemmas.List.{take-append-le, take_all, length-take, length-replicate, get_or-replicate, get_or-set_same, get_or-set_other, length-set}
use Rattle.std.proofs.lemmas.Option.{none-some, same_Some, slice_get_within, slice_get-map}
use Rattle.type_table.specs.Table.{Table}
use Rattle.type_table.proofs.Elements.{each-found, cases-more, found-front, found-last, found-set, found-set_other, take-found}
use Rattle.object_trait.specs.declared.event.Event.{Event}
use Rattle.serial_order.specs.Operations.{is_among}
use Rattle.serial_order.specs.History.{commits, IsHistory}
use Rattle.serial_order.proofs.Lists.{is_among-none_more, is_among-one_more, is_among-snoc}
use Rattle.history_audit.specs.Commits.{AreIndexes, IsIndexOf, numbers, index_in}
use Rattle.history_audit.specs.InOrder.{AreCommitted, AuditsInOrder, HasAll, IsLeastAbsent, IsMissing, IsNotCommitted, IsTwice, KeepsPrecedes, KeepsPrecedesAt}
use Rattle.history_audit.specs.OrderTests.{AllMarked, AreDates, AreMarked, IsLeastUnmarked, KeepsDatesAt, RunsInOrder, StopsOrder}
use Rattle.history_judge.specs.declared.committed.Committed.{Committed}
use Rattle.history_audit.specs.declared.in_order_fault.InOrderFault.{InOrderFault}
use Rattle.history_audit.specs.declared.in_order_fault.InOrderFault.TheVariants as no
use Rattle.history_audit.specs.declared.in_order_fault.OrderFault.TheVariants as order
use Rattle.history_judge.specs.declared.outcome.Audit.{Audit}
use Rattle.history_judge.specs.declared.outcome.AuditFault.{AuditFault}
use Rattle.history_judge.specs.declared.outcome.AuditFault.TheVariants.{BadEvent, IllegalOp, NoMemory}
use Rattle.history_audit.proofs.DatesExact.{among-more}
use Rattle.history_judge.proofs.Lists.{among-at, among-take, apart}

-- ---- the numbers of transactions

-- what is among the numbers is the number of one
pub number-of : (them : List Committed) (t : ℕ) → is_among (numbers them) t ≡ true → (n : ℕ) × (c : Committed) × (slice_get them n ≡ Some c) × (c.number ≡ t)
number-of [] t is = absurd (false≢true is)
number-of (c ∷ them) t is =
    elim (cases_Bool (c.number == t)) [
      | inl here ↦ (0, c, refl, eqb-true c.number t here)
      | inr other ↦
          let (n, d, at, same) = number-of them t (rw other at is) in
          (n + 1, d, rw add-one at, same)
    ]

-- each is below what all numbers are below
pub number-below : (them : List Committed) (above t : ℕ) → AllByRecursion (λ (c : Committed). c.number < above) them → is_among (numbers them) t ≡ true → t < above
number-below them above t below is =
    let (n, c, at, same) = number-of them t is in
    let low = each-found (λ (c : Committed). c.number < above) them n c below at in
    omega (arith, low, same)

-- a place that is one is of a committed transaction
pub place-committed : (ts : List ℕ) (t place : ℕ) → IsIndexOf ts t (Some place) → is_among ts t ≡ true
place-committed ts t place at = among-at ts place t at

-- ---- places

place-more : (ts : List ℕ) (t u : ℕ) (place : Option ℕ) → (t == u) ≡ false → IsIndexOf ts u place → IsIndexOf (ts ++ t ∷ []) u place
place-more ts t u None other known = is_among-none_more ts t u known other
place-more ts t u (Some q) other known = found-front ts (t ∷ []) q u known

-- a transaction that has a place is one of them
pub has-place : (ts : List ℕ) (t : ℕ) (place : Option ℕ) → IsIndexOf ts t place → is_some place ≡ true → is_among ts t ≡ true
has-place ts t None at some = absurd (false≢true some)
has-place ts t (Some q) at some = among-at ts q t at

-- there is nothing at the end of a list and after it
none-outside : {E : Type 0} (xs : List E) (t : ℕ) → length xs ≤ t → slice_get xs t ≡ None
none-outside [] t high = refl
none-outside (x ∷ xs) zero high = absurd (omega (arith, high))
none-outside (x ∷ xs) (suc t) high = none-outside xs t (omega (arith, high))

-- one whose number has no place isn't one of them
pub no-place : (ts : List ℕ) (places read : List (Option ℕ)) (t : ℕ) → AreIndexes ts places → read ≡ places → false ≡ nat_lt t (length read) → is_among ts t ≡ false
no-place ts places read t known same outside =
    let gone : slice_get places t ≡ None = none-outside places t (subst (λ (them : List (Option ℕ)). length them ≤ t) same (grind (arith, nat_tests, outside))) in
    let P : Option (Option ℕ) → Type 0 = λ p. IsIndexOf ts t (index_in p) in
    subst P gone (known t)

-- one more
pub places-more : (ts : List ℕ) (places : List (Option ℕ)) (n t : ℕ) → AreIndexes (take n ts) places → slice_get ts n ≡ Some t → t < length places → AreIndexes (take (n + 1) ts) (set places t (Some n))
places-more ts places n t known at inside u =
    let more = take-found ts n t at in
    elim (cases_Bool (t == u)) [
      | inl same ↦
          let low = slice_get_within ts n t at in
          let here : slice_get (set places t (Some n)) u ≡ Some (Some n) = ap (slice_get (set places t (Some n))) (sym (eqb-true t u same)) ∙ found-set places t (Some n) inside in
          let many : length (take n ts) ≡ n = length-take n ts ∙ omega (arith, low) in
          let found : slice_get (take (n + 1) ts) n ≡ Some u =
          ap (λ us. slice_get us n) more ∙ ap (slice_get (take n ts ++ t ∷ [])) (sym many) ∙ found-last (take n ts) t ∙ ap Some (eqb-true t u same) in
          let P : Option (Option ℕ) → Type 0 = λ p. IsIndexOf (take (n + 1) ts) u (index_in p) in
          subst P (sym here) found
      | inr other ↦
          let there = found-set_other places t u (Some n) (λ turned. apart t u other (sym turned)) in
          let P : Option (Option ℕ) → Type 0 = λ p. IsIndexOf (take (n + 1) ts) u (index_in p) in
          let Q : List ℕ → Type 0 = λ us. IsIndexOf us u (index_in (slice_get places u)) in
          subst P (sym there) (subst Q (sym more) (place-more (take n ts) t u (index_in (slice_get places u)) other (known u)))
    ]

-- ---- one more word

-- one more that committed and isn't there yet
pub committed-more : (committed ts : List ℕ) (n t : ℕ) → AreCommitted committed (take n ts) → slice_get ts n ≡ Some t → is_among committed t ≡ true → is_among (take n ts) t ≡ false
    → AreCommitted committed (take (n + 1) ts)
committed-more committed ts n t known at is fresh =
    let P : List ℕ → Type 0 = λ us. AreCommitted committed us in
    subst P (sym (take-found ts n t at)) (record {
      each = λ m u there. elim (cases-more (take n ts) t m u there) [
        | inl before ↦ known.each m u before
        | inr (here, same) ↦ subst (λ v. is_among committed v ≡ true) same is
      ];
      once = λ m u there. elim (cases-more (take n ts) t m u there) [
        | inl before ↦
            let low = slice_get_within (take n ts) m u before in
            ap (λ us. is_among us u) (take-append-le m (take n ts) (t ∷ []) (omega (arith, low))) ∙ known.once m u before
        | inr (here, same) ↦
            ap (λ us. is_among us u) (take-append-le m (take n ts) (t ∷ []) (omega (arith, here)) ∙ take_all m (take n ts) (omega (arith, here)))
            ∙ subst (λ v. is_among (take n ts) v ≡ false) same fresh
      ];
    })

-- none so far
pub committed-none : (committed ts : List ℕ) → AreCommitted committed (take 0 ts)
committed-none committed ts = record { each = λ n t at. absurd (none-some t at); once = λ n t at. absurd (none-some t at) }

-- ---- which are there

or_true : (b : Bool) → (b || true) ≡ true
or_true true = refl
or_true false = refl

or_false : (b : Bool) → (b || false) ≡ b
or_false true = refl
or_false false = refl

pub marked-none : (ts : List ℕ) (n : ℕ) → AreMarked (take 0 ts) (replicate n false)
marked-none ts n t low = get_or-replicate n t false false (omega (arith, low, length-replicate n false))

-- one more
pub marked-more : (ts : List ℕ) (there : List Bool) (n t : ℕ) → AreMarked (take n ts) there → slice_get ts n ≡ Some t → AreMarked (take (n + 1) ts) (set there t true)
marked-more ts there n t known at u low =
    let inside : u < length there = let many = length-set there t true in omega (arith, many, low) in
    elim (cases_Bool (t == u)) [
      | inl same ↦
          let P : ℕ → Type 0 = λ i. get_or (set there i true) u false ≡ true in
          subst P (sym (eqb-true t u same)) (get_or-set_same there u true false inside)
          ∙ sym (ap (λ us. is_among us u) (take-found ts n t at) ∙ is_among-snoc (take n ts) t u ∙ ap (λ b. is_among (take n ts) u || b) same ∙ or_true (is_among (take n ts) u))
      | inr other ↦
          get_or-set_other there t u true false (λ turned. apart t u other (sym turned)) ∙ known u inside
          ∙ sym (ap (λ us. is_among us u) (take-found ts n t at) ∙ is_among-snoc (take n ts) t u ∙ ap (λ b. is_among (take n ts) u || b) other ∙ or_false (is_among (take n ts) u))
    ]

-- marks stay
pub marks-stay : (these : List ℕ) (there : List Bool) (t : ℕ) → t < length there → AllMarked these there → AllMarked these (set there t true)
marks-stay these there t inside known u is =
    elim (cases_Bool (t == u)) [
      | inl same ↦
          let P : ℕ → Type 0 = λ i. get_or (set there i true) u false ≡ true in
          subst P (sym (eqb-true t u same)) (get_or-set_same there u true false (let here = eqb-true t u same in omega (arith, inside, here)))
      | inr other ↦ get_or-set_other there t u true false (λ turned. apart t u other (sym turned)) ∙ known u is
    ]

-- ---- the least that isn't marked

-- the first ones, with one more
one-more : (them : List Committed) (n : ℕ) (c : Committed) → slice_get them n ≡ Some c → take (n + 1) (numbers them) ≡ take n (numbers them) ++ c.number ∷ []
one-more them n c at = take-found (numbers them) n c.number (slice_get-map (λ (d : Committed). d.number) them n ∙ ap (option_map (λ (d : Committed). d.number)) at)

module _ (them : List Committed) (there : List Bool) (n : ℕ) (c : Committed) (at : slice_get them n ≡ Some c) where
  -- what holds of it and of the others holds of all
  all-more : (P : ℕ → Type 0) → P c.number → ((u : ℕ) → is_among (take n (numbers them)) u ≡ true → P u) → (u : ℕ) → is_among (take (n + 1) (numbers them)) u ≡ true → P u
  all-more P own others u is = is_among-one_more (take n (numbers them)) c.number u P own (others u) (rw (one-more them n c at) at is)

  -- it is one, and so are the others
  last-among : is_among (take (n + 1) (numbers them)) c.number ≡ true
  last-among = ap (λ us. is_among us c.number) (one-more them n c at) ∙ is_among-snoc (take n (numbers them)) c.number c.number ∙ ap (λ b. is_among (take n (numbers them)) c.number || b) (eq-eqb c.number c.number refl) ∙ or_true (is_among (take n (numbers them)) c.number)

  others-among : (u : ℕ) → is_among (take n (numbers them)) u ≡ true → is_among (take (n + 1) (numbers them)) u ≡ true
  others-among u is = ap (λ us. is_among us u) (one-more them n c at) ∙ is_among-snoc (take n (numbers them)) c.number u ∙ rw is refl

  pub marked-next : AllMarked (take n (numbers them)) there → get_or there c.number false ≡ true → AllMarked (take (n + 1) (numbers them)) there
  marked-next known own = all-more (λ u. get_or there u false ≡ true) own known

  -- it is marked
  pub least-kept : (least : Option ℕ) → get_or there c.number false ≡ true → MatchOption least (AllMarked (take n (numbers them)) there) (IsLeastUnmarked (take n (numbers them)) there)
      → MatchOption least (AllMarked (take (n + 1) (numbers them)) there) (IsLeastUnmarked (take (n + 1) (numbers them)) there)
  least-kept None own known = marked-next known own
  least-kept (Some t) own known = record {
    one = others-among t known.one;
    unmarked = known.unmarked;
    least = λ u less is. all-more (λ v. v < t → get_or there v false ≡ true) (λ low. own) (λ v among low. known.least v low among) u is less;
  }

  -- it isn't, and is the least where it is less than that of the others
  least-of : (least : Option ℕ) → get_or there c.number false ≡ false → MatchOption least (AllMarked (take n (numbers them)) there) (IsLeastUnmarked (take n (numbers them)) there)
      → IsLeastUnmarked (take (n + 1) (numbers them)) there (min (unwrap_or least c.number) c.number)
  least-of None own known =
      let P : ℕ → Type 0 = λ m. IsLeastUnmarked (take (n + 1) (numbers them)) there m in
      let same : c.number ≡ min c.number c.number = omega arith in
      subst P same (record {
        one = last-among;
        unmarked = own;
        least = λ u less is. all-more (λ v. v < c.number → get_or there v false ≡ true) (λ low. absurd (omega (arith, low))) (λ v among low. known v among) u is less;
      })
  least-of (Some t) own known =
      let P : ℕ → Type 0 = λ m. IsLeastUnmarked (take (n + 1) (numbers them)) there m in
      elim (cases_Bool (nat_lt c.number t)) [
        | inl less ↦
            let low : c.number < t = grind (arith, nat_tests, less) in
            let same : c.number ≡ min t c.number = omega (arith, low) in
            subst P same (record {
              one = last-among;
              unmarked = own;
              least = λ u below is. all-more (λ v. v < c.number → get_or there v false ≡ true) (λ under. absurd (omega (arith, under))) (λ v among under. known.least v (omega (arith, under, low)) among) u is below;
            })
        | inr more ↦
            let high : t ≤ c.number = grind (arith, nat_tests, more) in
            let same : t ≡ min t c.number = omega (arith, high) in
            subst P same (record {
              one = others-among t known.one;
              unmarked = known.unmarked;
              least = λ u below is. all-more (λ v. v < t → get_or there v false ≡ true) (λ under. absurd (omega (arith, under, high))) (λ v among under. known.least v under among) u is below;
            })
      ]

  pub least-less : (least new : Option ℕ) → get_or there c.number false ≡ false → new ≡ Some (min (unwrap_or least c.number) c.number)
      → MatchOption least (AllMarked (take n (numbers them)) there) (IsLeastUnmarked (take n (numbers them)) there)
      → MatchOption new (AllMarked (take (n + 1) (numbers them)) there) (IsLeastUnmarked (take (n + 1) (numbers them)) there)
  least-less least new own is known = rw is (least-of least own known)

-- ---- faults

module _ (H : List Event) (committed ts : List ℕ) (same : committed ≡ commits H) (n t : ℕ) (at : slice_get ts n ≡ Some t) (before : AreCommitted committed (take n ts)) where
  pub not-committed : is_among committed t ≡ false → StopsOrder H ts (no.Order (order.NotCommitted t))
  not-committed stray =
      let P : List ℕ → Type 0 = λ C. IsNotCommitted C ts t in
      subst P same (record { place = n; there = at; before = before; not_committed = stray })

  pub twice : is_among (take n ts) t ≡ true → StopsOrder H ts (no.Order (order.Twice t))
  twice again =
      let P : List ℕ → Type 0 = λ C. IsTwice C ts t in
      subst P same (record { place = n; there = at; before = before; again = again })

-- all marked are there
pub all-there : (committed ts : List ℕ) (there : List Bool) → ((t : ℕ) → is_among committed t ≡ true → t < length there) → AreMarked ts there → AllMarked committed there → HasAll committed ts
all-there committed ts there below marked all t is = sym (marked t (below t is)) ∙ all t is

-- the least that isn't marked is the least that isn't there
pub least-absent : (these ts : List ℕ) (there : List Bool) (t : ℕ) → ((u : ℕ) → is_among these u ≡ true → u < length there) → AreMarked ts there → IsLeastUnmarked these there t → IsLeastAbsent these ts t
least-absent these ts there t below marked known = record {
  one = known.one;
  absent = sym (marked t (below t known.one)) ∙ known.unmarked;
  least = λ u less is. sym (marked u (below u is)) ∙ known.least u less is;
}

pub missing : (H : List Event) (committed ts : List ℕ) (t : ℕ) → committed ≡ commits H → AreCommitted committed ts → IsLeastAbsent committed ts t → StopsOrder H ts (no.Order (order.Missing t))
missing H committed ts t same are absent =
    let P : List ℕ → Type 0 = λ C. IsMissing C ts t in
    subst P same (record { are = are; missing = absent })

-- ---- what precedes

-- one that comes after all that committed before its date
pub dates-kept : (committed dates ts : List ℕ) (there : List Bool) (n u : ℕ) → slice_get ts n ≡ Some u → ((t : ℕ) → is_among committed t ≡ true → t < length there) → AreMarked (take n ts) there
    → AllMarked (take (get_or dates u 0) committed) there → KeepsDatesAt committed dates ts n
dates-kept committed dates ts there n u at below marked all t v here is =
    let same : v ≡ u = same_Some v u (sym here ∙ at) in
    let early = subst (λ w. is_among (take (get_or dates w 0) committed) t ≡ true) same is in
    sym (marked t (below t (among-take committed (get_or dates u 0) t early))) ∙ all t early

-- so where the first so many that committed do, which aren't fewer
pub dates-front : (committed dates ts : List ℕ) (there : List Bool) (n u front : ℕ) → slice_get ts n ≡ Some u → ((t : ℕ) → is_among committed t ≡ true → t < length there) → AreMarked (take n ts) there
    → get_or dates u 0 ≤ front → AllMarked (take front committed) there → KeepsDatesAt committed dates ts n
dates-front committed dates ts there n u front at below marked fewer all =
    dates-kept committed dates ts there n u at below marked (λ t is. all t (among-more committed (get_or dates u 0) front t fewer is))

-- where there is no least that isn't marked, all are
pub none-unmarked : (these : List ℕ) (there : List Bool) (least : Option ℕ) → ((t : ℕ) → least ≡ Some t → ⊥) → MatchOption least (AllMarked these there) (IsLeastUnmarked these there) → AllMarked these there
none-unmarked these there None other known = known
none-unmarked these there (Some t) other known = absurd (other t refl)

-- by dates an order keeps what precedes
pub keeps-precedes : (H : List Event) (dates ts : List ℕ) (n : ℕ) → AreCommitted (commits H) ts → AreDates H dates → KeepsDatesAt (commits H) dates ts n → KeepsPrecedesAt H ts n
keeps-precedes H dates ts n are dated kept t u at precedes = kept t u at (((dated u (are.each n u at)).exact t).0 precedes)

-- or not
pub out-of-order : (H : List Event) (committed dates ts : List ℕ) (there : List Bool) (n t u : ℕ) → committed ≡ commits H → AreCommitted committed ts → HasAll committed ts → AreDates H dates
    → slice_get ts n ≡ Some u → ((v : ℕ) → is_among committed v ≡ true → v < length there) → AreMarked (take n ts) there → ((m : ℕ) → m < n → KeepsDatesAt committed dates ts m)
    → IsLeastUnmarked (take (get_or dates u 0) committed) there t → StopsOrder H ts (no.Order (order.Precedes t u))
out-of-order H committed dates ts there n t u same are all dated at below marked first known =
    let Cs : AreCommitted (commits H) ts = subst (λ C. AreCommitted C ts) same are in
    let absent = least-absent (take (get_or dates u 0) committed) (take n ts) there t (λ v is. below v (among-take committed (get_or dates u 0) v is)) marked known in
    let exact = (dated u (Cs.each n u at)).exact in
    record {
      are = Cs;
      all = subst (λ C. HasAll C ts) same all;
      place = n;
      there = at;
      first = λ m low. keeps-precedes H dates ts m Cs dated (subst (λ C. KeepsDatesAt C dates ts m) same (first m low));
      precedes = (exact t).1 (ap (λ C. is_among (take (get_or dates u 0) C) t) (sym same) ∙ absent.one);
      after = absent.absent;
      least = λ v less p. absent.least v less (ap (λ C. is_among (take (get_or dates u 0) C) v) same ∙ (exact v).0 p);
    }

-- all tests
pub tested : (H : List Event) (committed dates ts : List ℕ) (result : Result (Unit {0}) InOrderFault) → committed ≡ commits H → AreCommitted committed ts → HasAll committed ts → AreDates H dates
    → IfOk result (λ _. (n : ℕ) → KeepsDatesAt committed dates ts n) → IfErr result (λ fault. (G : List Event) → committed ≡ commits G → AreDates G dates → StopsOrder G ts fault)
    → MatchResult result (λ _. KeepsPrecedes H ts) (StopsOrder H ts)
tested H committed dates ts (Ok u) same are all dated kept refused =
    let Cs : AreCommitted (commits H) ts = subst (λ C. AreCommitted C ts) same are in
    record {
      are = Cs;
      all = subst (λ C. HasAll C ts) same all;
      keeps = λ n. keeps-precedes H dates ts n Cs dated (subst (λ C. KeepsDatesAt C dates ts n) same (kept n));
    }
tested H committed dates ts (Err fault) same are all dated kept refused = refused H same dated

-- ---- all of it

-- where a test stops, so does the audit
pub order-stops : (tables : List Table) (H : List Event) (ts : List ℕ) (fault : InOrderFault) → IsHistory tables H → StopsOrder H ts fault → AuditsInOrder tables H ts (Err fault)
order-stops tables H ts (no.Order fault) history stopped = (history, stopped)
order-stops tables H ts (no.Audit (BadEvent at)) history stopped = absurd stopped
order-stops tables H ts (no.Audit (IllegalOp i x j)) history stopped = absurd stopped
order-stops tables H ts (no.Audit NoMemory) history stopped = tt

-- what comes of the run is what the audit says
pub order-runs : (tables : List Table) (H : List Event) (ts : List ℕ) (a : Audit) → IsHistory tables H → KeepsPrecedes H ts → RunsInOrder tables H ts (Ok a) → AuditsInOrder tables H ts (Ok a)
order-runs tables H ts a history kept runs = (history, kept, runs.0, runs.1)

pub order-refuses : (tables : List Table) (H : List Event) (ts : List ℕ) (fault : AuditFault) → IsHistory tables H → KeepsPrecedes H ts → RunsInOrder tables H ts (Err fault)
    → AuditsInOrder tables H ts (Err (no.Audit fault))
order-refuses tables H ts (BadEvent at) history kept runs = absurd runs
order-refuses tables H ts (IllegalOp i x j) history kept runs = (history, kept, runs)
order-refuses tables H ts NoMemory history kept runs = tt
