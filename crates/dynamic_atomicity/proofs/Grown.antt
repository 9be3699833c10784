-- Dated operations: how a list of them grows, one by one, and stays so by a strike.
use Rattle.std.proofs.Common.{◌≡◌, ℕ, zero, suc, Bool, false, not, ◌==◌, List, [], ◌∷◌, ◌++◌, filter, refl, sym, ap, ◌∙◌, inl, inr, append-nil, append_assoc, subst}
use Rattle.std.specs.List.{AllByRecursion}
use Rattle.std.proofs.lemmas.Bool.{cases_Bool}
use Rattle.std.proofs.lemmas.List.{map-append}
use Rattle.type_table.specs.declared.kind.Kind.{Kind}
use Rattle.type_table.specs.declared.kind.Kind.TheVariants.{Undo, Intentions, Escrow}
use Rattle.escrow_laws.specs.Laws.{FirmAfterStrike}
use Rattle.object_trait.specs.Object.{Object}
use Rattle.object_trait.specs.Orders.{Pairs}
use Rattle.object_trait.specs.Strike.{keep_first}
use Rattle.object_trait.proofs.Lists.{pairs-push}
use Rattle.object_trait.proofs.Striking.{each-keep_first}
use Rattle.type_table.proofs.Elements.{eqb-sym, each-append}
use Rattle.serial_order.specs.Operations.{is_among, is_by, ops, of, serial}
use Rattle.dynamic_atomicity.specs.Dynamic.{Dated, dated_by, undated, AreOnce}
use Rattle.serial_order.specs.declared.entry.Entry.{Entry}
use Rattle.serial_order.proofs.Strikes.{keep_first-others, keep_first-none}
use Rattle.serial_order.proofs.Facts.{IsLegalAt}
use Rattle.serial_order.proofs.Escrow.{EscrowFacts, escrow_strike}
use Rattle.serial_order.proofs.Lists.{is_one-apart, filter-more, filter-apart, serial-strike}
use Rattle.serial_order.proofs.Pairs.{each-front, each-rest}
use Rattle.dynamic_atomicity.proofs.Before.{among-neither}

-- ---- fronts

-- one list is the front of another
pub record IsFront (front whole : List ℕ) : Type 0 where
  pub rest : List ℕ
  pub is : whole ≡ front ++ rest

-- of a longer one too
pub front-more : (A B : List ℕ) (t : ℕ) → IsFront A B → IsFront A (B ++ t ∷ [])
front-more A B t h = record { rest = h.rest ++ t ∷ []; is = ap (λ v. v ++ t ∷ []) h.is ∙ append_assoc A h.rest (t ∷ []) }

pub front-itself : (A : List ℕ) → IsFront A A
front-itself A = record { rest = []; is = sym (append-nil A) }

-- what isn't in a list isn't in its front
pub front-outside : (A B : List ℕ) (t : ℕ) → IsFront A B → is_among B t ≡ false → is_among A t ≡ false
front-outside A B t h outside = (among-neither A h.rest t (rw h.is at outside)).0

-- ---- growing

-- it conflicts with none that another, open, transaction held
abbrev pub IsFreeOf : Object → List Dated → Dated → Type 0
IsFreeOf o D b = AllByRecursion (λ e. is_among b.after e.by ≡ false → (b.entry.by == e.by) ≡ false → o.conflicts b.entry.op e.op ≡ false) (undated D)

-- by ways of recovery, what is so of an operation when it comes. With a conflict table it is free; with deferred update it was also legal
-- after its view; under escrow what each open transaction did with it is legal whatever the others do
abbrev pub CameBy : Kind → Object → List Dated → Dated → Type 0
CameBy Undo o D b = IsFreeOf o D b
CameBy Intentions o D b = IsFreeOf o D b × IsLegalAt o (ops (serial b.after (undated D) ++ of b.entry.by (undated D)) ++ b.entry.op ∷ [])
CameBy Escrow o D b = EscrowFacts o b.after (undated D ++ b.entry ∷ [])

-- and in each: its transaction hadn't committed; those that had are those of each earlier operation, and more
pub record Came (o : Object) (D : List Dated) (b : Dated) : Type 0 where
  pub fresh : is_among b.after b.entry.by ≡ false
  pub once : AreOnce b.after
  pub later : AllByRecursion (λ a. IsFront a.after b.after) D
  pub known : CameBy o.kind o D b

-- each operation came so
pub data Grown (o : Object) : List Dated → Type 0 where
  start : Grown o []
  grows : {D : List Dated} {b : Dated} → Grown o D → Came o D b → Grown o (D ++ b ∷ [])

-- ---- what is so of each

-- no operation's transaction had committed before it
pub grown-fresh : (o : Object) (D : List Dated) → Grown o D → AllByRecursion (λ (d : Dated). is_among d.after d.entry.by ≡ false) D
grown-fresh o _ start = tt
grown-fresh o _ (grows {D} {b} g came) = each-append (λ (d : Dated). is_among d.after d.entry.by ≡ false) D (b ∷ []) (grown-fresh o D g) (came.fresh, tt)

-- an operation that comes before another, of a transaction that hadn't committed when that came, is free for an exchange with it
abbrev pub IsApartFree : Object → Dated → Dated → Type 0
IsApartFree o a b = is_among b.after a.entry.by ≡ false → (b.entry.by == a.entry.by) ≡ false → o.conflicts b.entry.op a.entry.op ≡ false

each-from_plain : (P : Entry → Type 0) (D : List Dated) → AllByRecursion P (undated D) → AllByRecursion (λ (d : Dated). P d.entry) D
each-from_plain P [] p = tt
each-from_plain P (d ∷ D) p = (p.0, each-from_plain P D p.1)

pub grown-locked : (o : Object) → o.kind ≡ Undo → (D : List Dated) → Grown o D → Pairs (IsApartFree o) D
grown-locked o undo _ start = tt
grown-locked o undo _ (grows {D} {b} g came) =
    let free : IsFreeOf o D b = subst (λ (way : Kind). CameBy way o D b) undo came.known in
    pairs-push (IsApartFree o) D b (grown-locked o undo D g)
    (each-from_plain (λ (e : Entry). is_among b.after e.by ≡ false → (b.entry.by == e.by) ≡ false → o.conflicts b.entry.op e.op ≡ false) D free)

-- ---- plain lists

pub plain-append : (D E : List Dated) → undated (D ++ E) ≡ undated D ++ undated E
plain-append D E = map-append (λ (d : Dated). d.entry) D E

pub plain-keep_first : (mine : Entry → Bool) (n : ℕ) (D : List Dated) → undated (keep_first (λ d. mine d.entry) n D) ≡ keep_first mine n (undated D)
plain-keep_first mine n [] = refl
plain-keep_first mine zero (d ∷ D) =
    elim (cases_Bool (mine d.entry)) [
      | inl is ↦ simp is (plain-keep_first mine zero D)
      | inr isnt ↦ simp isnt (ap (λ rest. d.entry ∷ rest) (plain-keep_first mine zero D))
    ]
plain-keep_first mine (suc n) (d ∷ D) =
    elim (cases_Bool (mine d.entry)) [
      | inl is ↦ simp is (ap (λ rest. d.entry ∷ rest) (plain-keep_first mine n D))
      | inr isnt ↦ simp isnt (ap (λ rest. d.entry ∷ rest) (plain-keep_first mine (suc n) D))
    ]

pub plain-filter : (test : Entry → Bool) (D : List Dated) → undated (filter (λ d. test d.entry) D) ≡ filter test (undated D)
plain-filter test [] = refl
plain-filter test (d ∷ D) =
    elim (cases_Bool (test d.entry)) [
      | inl is ↦ simp is (ap (λ rest. d.entry ∷ rest) (plain-filter test D))
      | inr isnt ↦ simp isnt (plain-filter test D)
    ]

-- ---- strikes

-- how a strike ends: with the last element, where it isn't mine; where it is, with it and all before it, or without it
pub data Last {E : Type 0} (mine : E → Bool) (n : ℕ) (V : List E) (e : E) : Type 0 where
  others : mine e ≡ false → keep_first mine n (V ++ e ∷ []) ≡ keep_first mine n V ++ e ∷ [] → Last mine n V e
  all : keep_first mine n (V ++ e ∷ []) ≡ V ++ e ∷ [] → Last mine n V e
  without : keep_first mine n (V ++ e ∷ []) ≡ keep_first mine n V → Last mine n V e

last-next : {E : Type 0} (mine : E → Bool) (n m : ℕ) (x : E) (V : List E) (e : E) → ((W : List E) → keep_first mine n (x ∷ W) ≡ x ∷ keep_first mine m W) → Last mine m V e → Last mine n (x ∷ V) e
last-next mine n m x V e goes (others isnt is) = others isnt (goes (V ++ e ∷ []) ∙ ap (λ rest. x ∷ rest) is ∙ ap (λ rest. rest ++ e ∷ []) (sym (goes V)))
last-next mine n m x V e goes (all is) = all (goes (V ++ e ∷ []) ∙ ap (λ rest. x ∷ rest) is)
last-next mine n m x V e goes (without is) = without (goes (V ++ e ∷ []) ∙ ap (λ rest. x ∷ rest) is ∙ sym (goes V))

-- with none of mine left
last-none : {E : Type 0} (mine : E → Bool) (V : List E) (e : E) → Last mine 0 V e
last-none mine V e =
    elim (cases_Bool (mine e)) [
      | inl is ↦ without (keep_first-none mine (V ++ e ∷ []) ∙ filter-apart (λ x. not (mine x)) V e (simp is) ∙ sym (keep_first-none mine V))
      | inr isnt ↦ others isnt (keep_first-none mine (V ++ e ∷ []) ∙ filter-more (λ x. not (mine x)) V e (simp isnt) ∙ ap (λ rest. rest ++ e ∷ []) (sym (keep_first-none mine V)))
    ]

pub keep_first-last : {E : Type 0} (mine : E → Bool) (n : ℕ) (V : List E) (e : E) → Last mine n V e
keep_first-last mine zero V e = last-none mine V e
keep_first-last mine (suc n) [] e =
    elim (cases_Bool (mine e)) [
      | inl is ↦ all (simp is)
      | inr isnt ↦ others isnt (simp isnt)
    ]
keep_first-last mine (suc n) (x ∷ V) e =
    elim (cases_Bool (mine x)) [
      | inl is ↦ last-next mine (suc n) n x V e (λ W. simp is) (keep_first-last mine n V e)
      | inr isnt ↦ last-next mine (suc n) (suc n) x V e (λ W. simp isnt) (keep_first-last mine (suc n) V e)
    ]

-- a last element that isn't mine stays
keep_first-stays : {E : Type 0} (mine : E → Bool) (n : ℕ) (V : List E) (e : E) → mine e ≡ false → keep_first mine n (V ++ e ∷ []) ≡ keep_first mine n V ++ e ∷ []
keep_first-stays mine zero V e other = keep_first-none mine (V ++ e ∷ []) ∙ filter-more (λ x. not (mine x)) V e (simp other) ∙ ap (λ rest. rest ++ e ∷ []) (sym (keep_first-none mine V))
keep_first-stays mine (suc n) [] e other = simp other
keep_first-stays mine (suc n) (x ∷ V) e other =
    elim (cases_Bool (mine x)) [
      | inl is ↦ simp is (ap (λ rest. x ∷ rest) (keep_first-stays mine n V e other))
      | inr isnt ↦ simp isnt (ap (λ rest. x ∷ rest) (keep_first-stays mine (suc n) V e other))
    ]

-- an operation of another came so after a strike of t too, where t hadn't committed before it
module _ (strikes : FirmAfterStrike) (o : Object) (D : List Dated) (b : Dated) (t n : ℕ) (pending : is_among b.after t ≡ false) (other : dated_by t b ≡ false) where
  free-strike : IsFreeOf o D b → IsFreeOf o (keep_first (dated_by t) n D) b
  free-strike free = rw (plain-keep_first (is_by t) n D) (each-keep_first _ (is_by t) n (undated D) free)

  known-strike : (way : Kind) → CameBy way o D b → CameBy way o (keep_first (dated_by t) n D) b
  known-strike Undo free = free-strike free
  known-strike Intentions known = (free-strike known.0, rw (plain-keep_first (is_by t) n D, serial-strike b.after t n (undated D) pending, its) known.1)
    where
      its : of b.entry.by (keep_first (is_by t) n (undated D)) ≡ of b.entry.by (undated D)
      its = keep_first-others (is_by b.entry.by) (is_by t) n (undated D) (λ e mine. is_one-apart e.by t b.entry.by (eqb-sym t b.entry.by ∙ other) mine)
  known-strike Escrow facts =
      let whole : keep_first (is_by t) n (undated D ++ b.entry ∷ []) ≡ undated (keep_first (dated_by t) n D) ++ b.entry ∷ [] =
      keep_first-stays (is_by t) n (undated D) b.entry other ∙ ap (λ V. V ++ b.entry ∷ []) (sym (plain-keep_first (is_by t) n D)) in
      subst (EscrowFacts o b.after) whole (escrow_strike strikes o b.after (undated D ++ b.entry ∷ []) t n pending facts)

  came-strike : Came o D b → Came o (keep_first (dated_by t) n D) b
  came-strike came = record {
    fresh = came.fresh;
    once = came.once;
    later = each-keep_first _ (dated_by t) n D came.later;
    known = known-strike o.kind came.known;
  }

-- a list stays so by a strike of a transaction that hadn't committed before any of its operations
pub grown-strike : FirmAfterStrike → (o : Object) (t n : ℕ) (D : List Dated) → AllByRecursion (λ (d : Dated). is_among d.after t ≡ false) D → Grown o D → Grown o (keep_first (dated_by t) n D)
grown-strike strikes o t n _ pending start = start
grown-strike strikes o t n _ pending (grows {D} {b} g came) =
    let before = each-front (λ (d : Dated). is_among d.after t ≡ false) D (b ∷ []) pending in
    let here = each-rest (λ (d : Dated). is_among d.after t ≡ false) D (b ∷ []) pending in
    elim (keep_first-last (dated_by t) n D b) [
      | others other is ↦ rw is (grows (grown-strike strikes o t n D before g) (came-strike strikes o D b t n here.0 other came))
      | all is ↦ rw is (grows g came)
      | without is ↦ rw is (grown-strike strikes o t n D before g)
    ]
