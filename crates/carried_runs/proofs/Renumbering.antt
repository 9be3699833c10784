-- New numbers of carried transactions, and whose a new number is.
use Rattle.std.proofs.Common.{◌≡◌, ℕ, zero, suc, ◌+◌, ◌<◌, true, false, ◌==◌, List, [], ◌∷◌, map, length, refl, sym, ap, ◌∙◌, inl, inr, arith}
use Rattle.std.specs.List.{AllByRecursion}
use Rattle.std.proofs.lemmas.Bool.{cases_Bool, false≢true, eqb-true, eq-eqb}
use Rattle.std.proofs.lemmas.Bool.Decides.{nat_tests}
use Rattle.type_table.proofs.Elements.{eqb-sym}
use Rattle.object_trait.specs.Orders.{Pairs}
use Rattle.serial_order.specs.Operations.{is_among, at_object, ops, of}
use Rattle.serial_order.specs.declared.entry.Entry.{Entry}
use Rattle.carried_runs.specs.Carried.{number_in, renumbered}
use Rattle.carried_runs.specs.OldNumbers.{owner_of}

-- ---- numbers

-- no two are one
abbrev pub AreApart : List ℕ → Type 0
AreApart P = Pairs (λ a b. (b == a) ≡ false) P

-- they are less than n
abbrev pub AreLess : ℕ → List ℕ → Type 0
AreLess n P = AllByRecursion (λ t. t < n) P

-- a new number is less than how many are carried
pub number-below : (P : List ℕ) (t : ℕ) → is_among P t ≡ true → number_in P t < length P
number-below [] t inside = absurd (false≢true inside)
number-below (u ∷ P) t inside =
    elim (cases_Bool (u == t)) [
      | inl is ↦ rw is (omega arith)
      | inr isnt ↦ rw isnt (let rest = number-below P t (rw isnt at inside) in omega (arith, rest))
    ]

more-apart : (n j u : ℕ) → u < n → (n + j == u) ≡ false
more-apart n j u less = grind (arith, nat_tests)

zero-suc : (j : ℕ) → (0 == suc j) ≡ false
zero-suc j = grind (arith, nat_tests)

suc-zero : (j : ℕ) → (suc j == 0) ≡ false
suc-zero j = grind (arith, nat_tests)

suc-suc : (i j : ℕ) → (suc i == suc j) ≡ (i == j)
suc-suc i j = grind (arith, nat_tests)

-- it isn't one that is none of these
pub owner-apart : (P : List ℕ) (n j u : ℕ) → u < n → AllByRecursion (λ t. (t == u) ≡ false) P → (owner_of P n j == u) ≡ false
owner-apart [] n j u less none = more-apart n j u less
owner-apart (v ∷ P) n zero u less none = none.0
owner-apart (v ∷ P) n (suc j) u less none = owner-apart P n j u less none.1

-- two numbers are of two
pub owner-one : (P : List ℕ) (n i j : ℕ) → AreApart P → AreLess n P → owner_of P n i ≡ owner_of P n j → i ≡ j
owner-one [] n i j apart less same = omega (arith, same)
owner-one (u ∷ P) n zero zero apart less same = refl
owner-one (u ∷ P) n zero (suc j) apart less same = absurd (false≢true (sym (owner-apart P n j u less.0 apart.0) ∙ eq-eqb (owner_of P n j) u (sym same)))
owner-one (u ∷ P) n (suc i) zero apart less same = absurd (false≢true (sym (owner-apart P n i u less.0 apart.0) ∙ eq-eqb (owner_of P n i) u same))
owner-one (u ∷ P) n (suc i) (suc j) apart less same = ap suc (owner-one P n i j apart.1 less.1 same)

-- t's new number is j where j is t's
pub number-owner : (P : List ℕ) (n t j : ℕ) → AreApart P → AreLess n P → is_among P t ≡ true → (number_in P t == j) ≡ (t == owner_of P n j)
number-owner [] n t j apart less inside = absurd (false≢true inside)
number-owner (u ∷ P) n t zero apart less inside =
    elim (cases_Bool (u == t)) [
      | inl is ↦ rw is (sym (eqb-sym t u ∙ is))
      | inr isnt ↦ rw isnt (suc-zero (number_in P t) ∙ sym (eqb-sym t u ∙ isnt))
    ]
number-owner (u ∷ P) n t (suc j) apart less inside =
    elim (cases_Bool (u == t)) [
      | inl is ↦
          let other : (t == owner_of P n j) ≡ false = eqb-sym t (owner_of P n j) ∙ (rw (eqb-true u t is) at (owner-apart P n j u less.0 apart.0)) in
          rw is (zero-suc j ∙ sym other)
      | inr isnt ↦ rw isnt (suc-suc (number_in P t) j ∙ number-owner P n t j apart.1 less.1 (rw isnt at inside))
    ]

-- t's new number is t's
pub owner-number : (P : List ℕ) (n t : ℕ) → AreApart P → AreLess n P → is_among P t ≡ true → owner_of P n (number_in P t) ≡ t
owner-number P n t apart less inside =
    sym (eqb-true t (owner_of P n (number_in P t)) (sym (number-owner P n t (number_in P t) apart less inside) ∙ eq-eqb (number_in P t) (number_in P t) refl))

-- ---- operations

-- they are the same operations
pub ops-renumbered : (P : List ℕ) (W : List Entry) → ops (map (renumbered P) W) ≡ ops W
ops-renumbered P [] = refl
ops-renumbered P (e ∷ W) = ap (λ rest. e.op ∷ rest) (ops-renumbered P W)

-- at the same objects
pub at-renumbered : (x : ℕ) (P : List ℕ) (W : List Entry) → at_object x (map (renumbered P) W) ≡ map (renumbered P) (at_object x W)
at-renumbered x P [] = refl
at-renumbered x P (e ∷ W) =
    elim (cases_Bool (e.at == x)) [
      | inl here ↦ rw here (ap (λ rest. renumbered P e ∷ rest) (at-renumbered x P W))
      | inr elsewhere ↦ rw elsewhere (at-renumbered x P W)
    ]

-- those of a new number are those of the transaction whose number it is
pub of-renumbered : (P : List ℕ) (n j : ℕ) (W : List Entry) → AreApart P → AreLess n P → AllByRecursion (λ e. is_among P e.by ≡ true) W →
    of j (map (renumbered P) W) ≡ map (renumbered P) (of (owner_of P n j) W)
of-renumbered P n j [] apart less inside = refl
of-renumbered P n j (e ∷ W) apart less inside =
    let same = number-owner P n e.by j apart less inside.0 in
    elim (cases_Bool (e.by == owner_of P n j)) [
      | inl is ↦ rw (same, is) (ap (λ rest. renumbered P e ∷ rest) (of-renumbered P n j W apart less inside.1))
      | inr isnt ↦ rw (same, isnt) (of-renumbered P n j W apart less inside.1)
    ]

pub ops_of-renumbered : (P : List ℕ) (n j : ℕ) (W : List Entry) → AreApart P → AreLess n P → AllByRecursion (λ e. is_among P e.by ≡ true) W →
    ops (of j (map (renumbered P) W)) ≡ ops (of (owner_of P n j) W)
ops_of-renumbered P n j W apart less inside = ap ops (of-renumbered P n j W apart less inside) ∙ ops-renumbered P (of (owner_of P n j) W)
