-- Transactions by other names.
use Rattle.std.proofs.Common.{◌≡◌, ℕ, zero, suc, ◌+◌, ◌<◌, ◌≤◌, true, false, ◌==◌, List, [], ◌∷◌, ◌++◌, map, take, length, Some, refl, sym, ap, ◌∙◌, inl, inr, ◌⊎◌, append-nil, arith}
use Rattle.std.specs.List.{AllByRecursion}
use Rattle.std.proofs.lemmas.Bool.{cases_Bool, eqb-true, eq-eqb, false≢true, or_right}
use Rattle.std.proofs.lemmas.Bool.Decides.{nat_tests}
use Rattle.std.proofs.Math.Seq.{take-nil}
use Rattle.object_trait.specs.Strike.{keep_first}
use Rattle.serial_order.specs.Operations.{is_among, is_by, at_object, ops, of}
use Rattle.serial_order.specs.declared.entry.Entry.{Entry}
use Rattle.type_table.specs.Table.{Table}
use Rattle.type_table.proofs.Legal.{legal-front}
use Rattle.escrow_laws.specs.Safe.{Part, done_in_parts, AreOthers, IsSafe}
use Rattle.carried_runs.specs.OldNumbers.{owner_of}
use Rattle.carried_runs.proofs.Renumbering.{AreLess}

-- ---- the names of the next epoch

-- a carried one is less than n
pub owner-less : (P : List ℕ) (n j : ℕ) → AreLess n P → j < length P → owner_of P n j < n
owner-less [] n j less low = absurd (omega (arith, low))
owner-less (u ∷ P) n zero less low = less.0
owner-less (u ∷ P) n (suc j) less low = owner-less P n j less.1 (omega (arith, low))

-- the others follow from n on
pub owner-more : (P : List ℕ) (n m : ℕ) → owner_of P n (length P + m) ≡ n + m
owner-more [] n m = ap (λ i. n + i) (omega arith)
owner-more (u ∷ P) n m =
    let next : suc (length P) + m ≡ suc (length P + m) = omega arith in
    ap (owner_of (u ∷ P) n) next ∙ owner-more P n m

-- none is one of these, where no carried one is, and all of them are less than n
pub owner-outside : (C P : List ℕ) (n j : ℕ) → ((t : ℕ) → is_among C t ≡ true → t < n) → ((t : ℕ) → is_among P t ≡ true → is_among C t ≡ false) → is_among C (owner_of P n j) ≡ false
owner-outside C [] n j less outside =
    elim (cases_Bool (is_among C (n + j))) [
      | inl inside ↦ let low = less (n + j) inside in absurd (omega (arith, low))
      | inr out ↦ out
    ]
owner-outside C (u ∷ P) n zero less outside = outside u (rw (eq-eqb u u refl) refl)
owner-outside C (u ∷ P) n (suc j) less outside = owner-outside C P n j less (λ t inside. outside t (or_right (u == t) (is_among P t) inside))

-- ---- names that tell transactions apart

abbrev pub AreNames : (ℕ → ℕ) → Type 0
AreNames g = (i j : ℕ) → g i ≡ g j → i ≡ j

pub names-same : (g : ℕ → ℕ) → AreNames g → (i j : ℕ) → (g i == g j) ≡ (i == j)
names-same g one i j =
    elim (cases_Bool (i == j)) [
      | inl is ↦ eq-eqb (g i) (g j) (ap g (eqb-true i j is)) ∙ sym is
      | inr other ↦ elim (cases_Bool (g i == g j)) [
        | inl same ↦ absurd (false≢true (sym other ∙ eq-eqb i j (one i j (eqb-true (g i) (g j) same))))
        | inr apart ↦ apart ∙ sym other
      ]
    ]

-- the operation, of its transaction's name
abbrev pub by_name : (ℕ → ℕ) → Entry → Entry
by_name g e = record { by = g e.by; at = e.at; op = e.op }

module _ (g : ℕ → ℕ) (one : AreNames g) where
  pub among-named : (C : List ℕ) (j : ℕ) → is_among (map g C) (g j) ≡ is_among C j
  among-named [] j = refl
  among-named (i ∷ C) j = rw (names-same g one i j, among-named C j) refl

  pub of-named : (j : ℕ) (V : List Entry) → of (g j) (map (by_name g) V) ≡ map (by_name g) (of j V)
  of-named j [] = refl
  of-named j (e ∷ V) =
      elim (cases_Bool (e.by == j)) [
        | inl mine ↦ rw (names-same g one e.by j, mine) (ap (λ rest. by_name g e ∷ rest) (of-named j V))
        | inr other ↦ rw (names-same g one e.by j, other) (of-named j V)
      ]

  pub strike-named : (j n : ℕ) (V : List Entry) → keep_first (is_by (g j)) n (map (by_name g) V) ≡ map (by_name g) (keep_first (is_by j) n V)
  strike-named j n [] = refl
  strike-named j zero (e ∷ V) =
      elim (cases_Bool (e.by == j)) [
        | inl mine ↦ rw (names-same g one e.by j, mine) (strike-named j zero V)
        | inr other ↦ rw (names-same g one e.by j, other) (ap (λ rest. by_name g e ∷ rest) (strike-named j zero V))
      ]
  strike-named j (suc n) (e ∷ V) =
      elim (cases_Bool (e.by == j)) [
        | inl mine ↦ rw (names-same g one e.by j, mine) (ap (λ rest. by_name g e ∷ rest) (strike-named j n V))
        | inr other ↦ rw (names-same g one e.by j, other) (ap (λ rest. by_name g e ∷ rest) (strike-named j (suc n) V))
      ]

pub ops-named : (g : ℕ → ℕ) (V : List Entry) → ops (map (by_name g) V) ≡ ops V
ops-named g [] = refl
ops-named g (e ∷ V) = ap (λ rest. e.op ∷ rest) (ops-named g V)

pub at-named : (g : ℕ → ℕ) (x : ℕ) (V : List Entry) → at_object x (map (by_name g) V) ≡ map (by_name g) (at_object x V)
at-named g x [] = refl
at-named g x (e ∷ V) =
    elim (cases_Bool (e.at == x)) [
      | inl here ↦ rw here (ap (λ rest. by_name g e ∷ rest) (at-named g x V))
      | inr elsewhere ↦ rw elsewhere (at-named g x V)
    ]

-- ---- what is safe by other names, where some do nothing

-- who did nothing, or did what another did by the name h
abbrev pub IsLike : (ℕ → ℕ) → (ℕ → ℕ) → (ℕ → List ℕ) → (ℕ → List ℕ) → ℕ → Type 0
IsLike g h own now u = (now u ≡ []) ⊎ ((now u ≡ own (h u)) × (g (h u) ≡ u))

-- each of the others is another
others-each : (t : ℕ) (ps : List Part) → AreOthers t ps → AllByRecursion (λ (p : Part). (p.by == t) ≡ false) ps
others-each t [] others = tt
others-each t (p ∷ ps) others = (others.0, others-each t ps others.2)

-- a number above all
above : List Part → ℕ
above [] = 0
above (p ∷ ps) = above ps + suc p.by

above-none : (ps : List Part) (z : ℕ) → above ps ≤ z → AllByRecursion (λ (p : Part). (p.by == z) ≡ false) ps
unfolding above
above-none [] z far = tt
above-none (p ∷ ps) z far = (differs p.by z (omega (arith, far)), above-none ps z (omega (arith, far)))
  where
    differs : (a b : ℕ) → a < b → (a == b) ≡ false
    differs a b low = grind (arith, nat_tests, low)

module _ (g h : ℕ → ℕ) (own now : ℕ → List ℕ) (like : (u : ℕ) → IsLike g h own now u) where
  -- the parts that do something, by these names
  record Live (ps : List Part) : Type 0 where
    parts : List Part
    does : done_in_parts now ps ≡ done_in_parts own parts
    others : (t z : ℕ) → AreOthers t ps → AllByRecursion (λ (p : Part). (p.by == z) ≡ false) parts → AreOthers z parts
    none : (t : ℕ) → g (h t) ≡ t → AllByRecursion (λ (p : Part). (p.by == t) ≡ false) ps → AllByRecursion (λ (p : Part). (p.by == h t) ≡ false) parts

  -- two that differ have names that differ
  apart-named : (u t : ℕ) → g (h u) ≡ u → g (h t) ≡ t → (u == t) ≡ false → (h u == h t) ≡ false
  apart-named u t u_is t_is other =
      elim (cases_Bool (h u == h t)) [
        | inl same ↦ absurd (false≢true (sym other ∙ eq-eqb u t (sym u_is ∙ ap g (eqb-true (h u) (h t) same) ∙ t_is)))
        | inr apart ↦ apart
      ]

  live : (ps : List Part) → Live ps
  live [] = record { parts = []; does = refl; others = λ t z others all. tt; none = λ t is all. tt }
  live (p ∷ ps) =
      let rest = live ps in
      elim (like p.by) [
        | inl idle ↦ record {
          parts = rest.parts;
          does = ap (λ w. take p.count w ++ done_in_parts now ps) idle ∙ ap (λ w. w ++ done_in_parts now ps) (take-nil p.count) ∙ rest.does;
          others = λ t z others all. rest.others t z others.2 all;
          none = λ t is all. rest.none t is all.1;
        }
        | inr does ↦ record {
          parts = (record { by = h p.by; count = p.count }) ∷ rest.parts;
          does = ap (λ w. take p.count w ++ done_in_parts now ps) does.0 ∙ ap (λ w. take p.count (own (h p.by)) ++ w) rest.does;
          others = λ t z others all. (all.0, rest.none p.by does.1 others.1, rest.others t z others.2 all.1);
          none = λ t is all. (apart-named p.by t does.1 is all.0, rest.none t is all.1);
        }
      ]

  pub safe-like : (T : Table) (base : ℕ) → IsSafe T base own → IsSafe T base now
  safe-like T base safe = λ t ps others.
      let it = live ps in
      elim (like t) [
        | inl idle ↦
            let z = above it.parts in
            let legal = safe z it.parts (it.others t z others (above-none it.parts z (omega arith))) in
            rw (idle, it.does, append-nil (done_in_parts own it.parts)) (legal-front T (Some base) (done_in_parts own it.parts) (own z) legal)
        | inr does ↦ rw (does.0, it.does) (safe (h t) it.parts (it.others t (h t) others (it.none t does.1 (others-each t ps others))))
      ]
