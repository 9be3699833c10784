-- What had committed when an operation that survives was executed precedes its transaction. To see it each operation is given its place among
-- the events for its number: then what survives tells its place.
use Rattle.std.proofs.Common.{◌≡◌, ℕ, zero, suc, ◌+◌, ◌-◌, true, false, ◌==◌, List, [], ◌∷◌, ◌++◌, length, filter, fold, take, refl, sym, ap, subst, ◌∙◌, inl, inr, append_assoc, length-append, arith}
use Rattle.std.specs.List.{AllByRecursion}
use Rattle.std.proofs.lemmas.Bool.{cases_Bool, eq-eqb}
use Rattle.std.proofs.lemmas.List.{take-append-le, take_all}
use Rattle.type_table.proofs.Elements.{each-append, each-weaker}
use Rattle.object_trait.specs.Strike.{keep_first}
use Rattle.object_trait.specs.declared.event.Event.{Event}
use Rattle.object_trait.specs.declared.event.EventKind.{EventKind}
use Rattle.object_trait.specs.declared.event.EventKind.TheVariants as kind
use Rattle.object_trait.specs.declared.event.EventKind.TheVariants.{Begin, Op, Busy, Commit, Abort, Rollback}
use Rattle.serial_order.specs.Operations.{is_among, is_by, of}
use Rattle.serial_order.specs.History.{aborts, aborted_by, commits, survive_after, surviving}
use Rattle.serial_order.specs.Laws.{SurvivesAsRead}
use Rattle.serial_order.specs.Readings.{is_op_of, stays, survivor_op, survivors, taken_back}
use Rattle.serial_order.specs.declared.entry.Entry.{Entry}
use Rattle.serial_order.proofs.Events.{commits-snoc}
use Rattle.serial_order.proofs.Reach.{reach, rolled_back-reach}
use Rattle.dynamic_atomicity.specs.Dynamic.{Dated, dated, dated_after, dated_by, dated_from}
use Rattle.history_audit.specs.InOrder.{Precedes}
use Rattle.audit_laws.specs.Laws.{LivingPrecedes}

-- ---- places for numbers

abbrev placed_kind : ℕ → EventKind → EventKind
placed_kind p (Op k t x) = Op p t x
placed_kind p (Begin t) = Begin t
placed_kind p (Busy c t x u) = Busy c t x u
placed_kind p (kind.None t x c) = kind.None t x c
placed_kind p (Commit t) = Commit t
placed_kind p (Abort t) = Abort t
placed_kind p (Rollback t n) = Rollback t n

abbrev placed : ℕ → List Event → List Event
placed p [] = []
placed p (e ∷ K) = (record { worker = e.worker; kind = placed_kind p e.kind }) ∷ placed (suc p) K

-- ---- what stays, whatever the numbers of operations

op-placed : (t p : ℕ) (happened : EventKind) → is_op_of t (placed_kind p happened) ≡ is_op_of t happened
op-placed t p (Op k u x) = refl
op-placed t p (Begin u) = refl
op-placed t p (Busy c u x v) = refl
op-placed t p (kind.None u x c) = refl
op-placed t p (Commit u) = refl
op-placed t p (Abort u) = refl
op-placed t p (Rollback u n) = refl

taken-placed : (t p : ℕ) (happened : EventKind) → taken_back t (placed_kind p happened) ≡ taken_back t happened
taken-placed t p (Op k u x) = refl
taken-placed t p (Begin u) = refl
taken-placed t p (Busy c u x v) = refl
taken-placed t p (kind.None u x c) = refl
taken-placed t p (Commit u) = refl
taken-placed t p (Abort u) = refl
taken-placed t p (Rollback u n) = refl

aborted-placed : (p : ℕ) (happened : EventKind) → aborted_by (placed_kind p happened) ≡ aborted_by happened
aborted-placed p (Op k u x) = refl
aborted-placed p (Begin u) = refl
aborted-placed p (Busy c u x v) = refl
aborted-placed p (kind.None u x c) = refl
aborted-placed p (Commit u) = refl
aborted-placed p (Abort u) = refl
aborted-placed p (Rollback u n) = refl

aborts-placed : (p : ℕ) (K : List Event) → aborts (placed p K) ≡ aborts K
aborts-placed p [] = refl
aborts-placed p (e ∷ K) = rw (aborted-placed p e.kind, aborts-placed (suc p) K) refl

reach-placed : (t p : ℕ) (K : List Event) (n : ℕ) → reach t (placed p K) n ≡ reach t K n
reach-placed t p [] n = refl
reach-placed t p (e ∷ K) n = rw (taken-placed t p e.kind, op-placed t p e.kind, reach-placed t (suc p) K n) refl

stays-placed : (t p : ℕ) (K : List Event) → stays t (placed p K) ≡ stays t K
stays-placed t p K = rw (rolled_back-reach t (placed p K), reach-placed t p K 0, aborts-placed p K, rolled_back-reach t K) refl

-- ---- what survives tells its place

-- it is at the place of an operation of its transaction, which survives by the events after it
record IsAt (p : ℕ) (K : List Event) (f : Entry) : Type 0 where
  pub before : List Event
  pub happened : Event
  pub after : List Event
  pub whole : K ≡ before ++ happened ∷ after
  pub place : f.op ≡ p + length before
  pub operation : is_op_of f.by happened.kind ≡ true
  pub survives : stays f.by after ≡ true

-- of the first event
at-first : (p w t x k : ℕ) (K : List Event) → AllByRecursion (IsAt p ((record { worker = w; kind = Op k t x }) ∷ K)) (survivor_op (Op p t x) (placed (suc p) K))
at-first p w t x k K =
    elim (cases_Bool (stays t (placed (suc p) K))) [
      | inl is ↦ rw is (
        record {
          before = [];
          happened = record { worker = w; kind = Op k t x };
          after = K;
          whole = refl;
          place = omega arith;
          operation = eq-eqb t t refl;
          survives = sym (stays-placed t (suc p) K) ∙ is;
        },
        tt,
      )
      | inr isnt ↦ rw isnt tt
    ]

at-event : (p : ℕ) (e : Event) (K : List Event) → AllByRecursion (IsAt p (e ∷ K)) (survivor_op (placed_kind p e.kind) (placed (suc p) K))
at-event p e K = at-kind e.worker e.kind
  where
    at-kind : (w : ℕ) (happened : EventKind) → AllByRecursion (IsAt p ((record { worker = w; kind = happened }) ∷ K)) (survivor_op (placed_kind p happened) (placed (suc p) K))
    at-kind w (Op k t x) = at-first p w t x k K
    at-kind w (Begin t) = tt
    at-kind w (Busy c t x u) = tt
    at-kind w (kind.None t x c) = tt
    at-kind w (Commit t) = tt
    at-kind w (Abort t) = tt
    at-kind w (Rollback t n) = tt

-- of later events
at-later : (p : ℕ) (e : Event) (K : List Event) (f : Entry) → IsAt (suc p) K f → IsAt p (e ∷ K) f
at-later p e K f at = record {
  before = e ∷ at.before;
  happened = at.happened;
  after = at.after;
  whole = ap (λ rest. e ∷ rest) at.whole;
  place = let is = at.place in omega (arith, is);
  operation = at.operation;
  survives = at.survives;
}

all-at : (p : ℕ) (K : List Event) → AllByRecursion (IsAt p K) (survivors (placed p K))
all-at p [] = tt
all-at p (e ∷ K) =
    each-append (IsAt p (e ∷ K)) (survivor_op (placed_kind p e.kind) (placed (suc p) K)) (survivors (placed (suc p) K)) (at-event p e K)
    (each-weaker (at-later p e K) (survivors (placed (suc p) K)) (all-at (suc p) K))

-- ---- dates

-- two lists of the same transactions, of which each of the first has the date that the place of the other tells
abbrev AreDatedBy : List Event → List Dated → List Entry → Type 0
AreDatedBy H [] [] = Unit {0}
AreDatedBy H (d ∷ D) (f ∷ V) = (d.entry.by ≡ f.by) × (d.after ≡ commits (take f.op H)) × AreDatedBy H D V
AreDatedBy H D V = ⊥

-- one more at the end
dated-more : (H : List Event) (D : List Dated) (V : List Entry) (d : Dated) (f : Entry) → AreDatedBy H D V → d.entry.by ≡ f.by → d.after ≡ commits (take f.op H) → AreDatedBy H (D ++ d ∷ []) (V ++ f ∷ [])
dated-more H [] [] d f known by after = (by, after, tt)
dated-more H [] (g ∷ V) d f known by after = absurd known
dated-more H (c ∷ D) [] d f known by after = absurd known
dated-more H (c ∷ D) (g ∷ V) d f known by after = (known.0, known.1, dated-more H D V d f known.2 by after)

-- as many are of t
dated-of : (H : List Event) (t : ℕ) (D : List Dated) (V : List Entry) → AreDatedBy H D V → length (filter (dated_by t) D) ≡ length (of t V)
dated-of H t [] [] known = refl
dated-of H t [] (g ∷ V) known = absurd known
dated-of H t (c ∷ D) [] known = absurd known
dated-of H t (c ∷ D) (g ∷ V) known =
    let rest = dated-of H t D V known.2 in
    elim (cases_Bool (g.by == t)) [
      | inl is ↦ let own : (c.entry.by == t) ≡ true = ap (λ u. u == t) known.0 ∙ is in rw (own, is) (ap suc rest)
      | inr isnt ↦ let other : (c.entry.by == t) ≡ false = ap (λ u. u == t) known.0 ∙ isnt in rw (other, isnt) rest
    ]

-- the first n of t are kept in both
dated-kept : (H : List Event) (t n : ℕ) (D : List Dated) (V : List Entry) → AreDatedBy H D V → AreDatedBy H (keep_first (dated_by t) n D) (keep_first (is_by t) n V)
dated-kept H t n [] [] known = tt
dated-kept H t n [] (g ∷ V) known = absurd known
dated-kept H t n (c ∷ D) [] known = absurd known
dated-kept H t zero (c ∷ D) (g ∷ V) known =
    let rest = dated-kept H t zero D V known.2 in
    elim (cases_Bool (g.by == t)) [
      | inl is ↦ let own : (c.entry.by == t) ≡ true = ap (λ u. u == t) known.0 ∙ is in rw (own, is) rest
      | inr isnt ↦ let other : (c.entry.by == t) ≡ false = ap (λ u. u == t) known.0 ∙ isnt in rw (other, isnt) (known.0, known.1, rest)
    ]
dated-kept H t (suc n) (c ∷ D) (g ∷ V) known =
    elim (cases_Bool (g.by == t)) [
      | inl is ↦ let own : (c.entry.by == t) ≡ true = ap (λ u. u == t) known.0 ∙ is in rw (own, is) (known.0, known.1, dated-kept H t n D V known.2)
      | inr isnt ↦ let other : (c.entry.by == t) ≡ false = ap (λ u. u == t) known.0 ∙ isnt in rw (other, isnt) (known.0, known.1, dated-kept H t (suc n) D V known.2)
    ]

-- one more event, which follows B
dated-step : (H B : List Event) (happened : EventKind) (D : List Dated) (V : List Entry) → take (length B) H ≡ B → AreDatedBy H D V
    → AreDatedBy H (dated_after (commits B) D happened) (survive_after V (placed_kind (length B) happened))
dated-step H B (Op k t x) D V front known = dated-more H D V _ _ known refl (ap commits (sym front))
dated-step H B (Abort t) D V front known = dated-kept H t 0 D V known
dated-step H B (Rollback t n) D V front known =
    rw (dated-of H t D V known) (dated-kept H t (length (of t V) - n) D V known)
dated-step H B (Begin t) D V front known = known
dated-step H B (Busy c t x u) D V front known = known
dated-step H B (kind.None t x c) D V front known = known
dated-step H B (Commit t) D V front known = known

dated-on : (H B K : List Event) (D : List Dated) (V : List Entry) → H ≡ B ++ K → AreDatedBy H D V
    → AreDatedBy H (dated_from (commits B) D K) (fold (λ W e. survive_after W e.kind) V (placed (length B) K))
dated-on H B [] D V whole known = known
dated-on H B (e ∷ K) D V whole known =
    let front : take (length B) H ≡ B = ap (take (length B)) whole ∙ take-append-le (length B) B (e ∷ K) (omega arith) ∙ take_all (length B) B (omega arith) in
    let more : H ≡ (B ++ e ∷ []) ++ K = whole ∙ sym (append_assoc B (e ∷ []) K) in
    let many : length (B ++ e ∷ []) ≡ suc (length B) = length-append B (e ∷ []) ∙ omega arith in
    let next = dated-on H (B ++ e ∷ []) K (dated_after (commits B) D e.kind) (survive_after V (placed_kind (length B) e.kind)) more (dated-step H B e.kind D V front known) in
    let P : List ℕ → Type 0 = λ C. AreDatedBy H (dated_from C (dated_after (commits B) D e.kind) K) (fold (λ W f. survive_after W f.kind) (survive_after V (placed_kind (length B) e.kind)) (placed (suc (length B)) K)) in
    let Q : ℕ → Type 0 = λ n. AreDatedBy H (dated_from (commits (B ++ e ∷ [])) (dated_after (commits B) D e.kind) K) (fold (λ W f. survive_after W f.kind) (survive_after V (placed_kind (length B) e.kind)) (placed n K)) in
    subst P (commits-snoc B e) (subst Q many next)

-- ---- so they precede

each-precedes : (H : List Event) (D : List Dated) (V : List Entry) → AreDatedBy H D V → AllByRecursion (IsAt 0 H) V
    → AllByRecursion (λ (d : Dated). (t : ℕ) → is_among d.after t ≡ true → Precedes H t d.entry.by) D
each-precedes H [] V known at = tt
each-precedes H (d ∷ D) [] known at = absurd known
each-precedes H (d ∷ D) (f ∷ V) known (is, at) = (
  λ t after.
      let place : f.op ≡ length is.before = let said = is.place in omega (arith, said) in
      let front : take f.op H ≡ is.before =
      ap (λ n. take n H) place ∙ ap (take (length is.before)) is.whole ∙ take-append-le (length is.before) is.before (is.happened ∷ is.after) (omega arith) ∙ take_all (length is.before) is.before (omega arith) in
      record {
        before = is.before;
        happened = is.happened;
        after = is.after;
        whole = is.whole;
        ended = ap (λ C. is_among C t) (sym (known.1 ∙ ap commits front)) ∙ after;
        operation = ap (λ u. is_op_of u is.happened.kind) known.0 ∙ is.operation;
        survives = ap (λ u. stays u is.after) known.0 ∙ is.survives;
      },
  each-precedes H D V known.2 at,
)

pub living_precedes : SurvivesAsRead → LivingPrecedes
living_precedes read = λ H.
    let P : List Entry → Type 0 = λ V. AllByRecursion (IsAt 0 H) V in
    each-precedes H (dated H) (surviving (placed 0 H)) (dated-on H [] H [] [] refl tt) (subst P (sym (read (placed 0 H))) (all-at 0 H))
