-- What is safe stays so where operations are struck, and where a transaction commits.
use Rattle.std.proofs.Common.{◌≡◌, ℕ, suc, ◌+◌, ◌<◌, ◌≤◌, false, not, ◌==◌, List, [], ◌∷◌, ◌++◌, map, filter, take, length, Some, refl, sym, ap, ◌∙◌, subst, inl, inr, arith, append-nil, append_assoc}
use Rattle.std.specs.Prelude.{min}
use Rattle.std.specs.List.{AllByRecursion}
use Rattle.std.proofs.lemmas.Bool.{cases_Bool, eqb-true, ne_eqb}
use Rattle.std.proofs.lemmas.List.{take_all, take_min, take-append-le}
use Rattle.type_table.specs.Table.{Table}
use Rattle.type_table.specs.Run.{run, IsLegal}
use Rattle.type_table.specs.Laws.{RunsAlong}
use Rattle.type_table.proofs.Elements.{each-filter, each-map, each-weaker, eqb-sym}
use Rattle.type_table.proofs.Legal.{legal-front, legal-behind}
use Rattle.escrow_laws.specs.Safe.{Part, done_in_parts, AreOthers, IsSafe}

-- ---- operations that are struck

module _ (T : Table) (base : ℕ) (own left : ℕ → List ℕ) (fronts : (u : ℕ) → (struck : List ℕ) × (own u ≡ left u ++ struck)) where
  -- no more of what was done than is left
  abbrev cut : Part → Part
  cut p = record { by = p.by; count = min p.count (length (left p.by)) }

  cut-takes : (p : Part) → take (cut p).count (own p.by) ≡ take p.count (left p.by)
  cut-takes p =
      rw ((fronts p.by).1) (take-append-le (min p.count (length (left p.by))) (left p.by) (fronts p.by).0 (omega arith) ∙ take_min p.count (left p.by))

  cut-done : (ps : List Part) → done_in_parts own (map cut ps) ≡ done_in_parts left ps
  cut-done [] = refl
  cut-done (p ∷ ps) = rw (cut-takes p, cut-done ps) refl

  cut-others : (t : ℕ) (ps : List Part) → AreOthers t ps → AreOthers t (map cut ps)
  cut-others t [] others = tt
  cut-others t (p ∷ ps) others = (others.0, each-map (λ (q : Part). (q.by == p.by) ≡ false) cut ps others.1, cut-others t ps others.2)

  pub safe-struck : IsSafe T base own → IsSafe T base left
  safe-struck safe t ps others =
      let whole : IsLegal T (Some base) (done_in_parts left ps ++ (left t ++ (fronts t).0)) = rw (cut-done ps, (fronts t).1) at (safe t (map cut ps) (cut-others t ps others)) in
      legal-front T (Some base) (done_in_parts left ps ++ left t) (fronts t).0 (rw (append_assoc (done_in_parts left ps) (left t) (fronts t).0) whole)

-- ---- a commit

-- parts of others than v, where they are parts of others than t
others-than : (t v : ℕ) (ps : List Part) → AreOthers t ps → AllByRecursion (λ (p : Part). (p.by == v) ≡ false) ps → AreOthers v ps
others-than t v [] others apart = tt
others-than t v (p ∷ ps) others apart = (apart.0, others.1, others-than t v ps others.2 apart.1)

-- some of them
others-filter : (t v : ℕ) (ps : List Part) → AreOthers t ps → AreOthers t (filter (λ p. not (p.by == v)) ps)
others-filter t v [] others = tt
others-filter t v (p ∷ ps) others =
    elim (cases_Bool (p.by == v)) [
      | inl is ↦ rw is (others-filter t v ps others.2)
      | inr isnt ↦ rw isnt (others.0, each-filter (λ (q : Part). (q.by == p.by) ≡ false) (λ q. not (q.by == v)) ps others.1, others-filter t v ps others.2)
    ]

filtered-apart : (v : ℕ) (ps : List Part) → AllByRecursion (λ (p : Part). (p.by == v) ≡ false) (filter (λ p. not (p.by == v)) ps)
filtered-apart v [] = tt
filtered-apart v (p ∷ ps) =
    elim (cases_Bool (p.by == v)) [
      | inl is ↦ rw is (filtered-apart v ps)
      | inr isnt ↦ rw isnt (isnt, filtered-apart v ps)
    ]

-- a number above each transaction of these
abbrev bound : List Part → ℕ
bound [] = 0
bound (p ∷ ps) = bound ps + suc p.by

below-bound : (ps : List Part) → AllByRecursion (λ (p : Part). p.by < bound ps) ps
below-bound [] = tt
below-bound (p ∷ ps) = (omega arith, each-weaker (λ q below. omega (arith, below)) ps (below-bound ps))

fresh-apart : (n : ℕ) (ps : List Part) → bound ps ≤ n → AllByRecursion (λ (p : Part). (p.by == n) ≡ false) ps
fresh-apart n ps far = each-weaker (λ p below. ne_eqb p.by n (λ is. omega (arith, below, far, is))) ps (below-bound ps)

module _ (along : RunsAlong) (T : Table) (base now t : ℕ) (own left : ℕ → List ℕ) (reached : run T (Some base) (own t) ≡ Some now) (gone : left t ≡ []) (same : (u : ℕ) → (u == t) ≡ false → left u ≡ own u) where
  -- t's parts do nothing any more
  abbrev without_t : List Part → List Part
  without_t ps = filter (λ p. not (p.by == t)) ps

  left-done : (ps : List Part) → done_in_parts left ps ≡ done_in_parts own (without_t ps)
  left-done [] = refl
  left-done (p ∷ ps) =
      elim (cases_Bool (p.by == t)) [
        | inl is ↦
            let none : left p.by ≡ [] = ap left (eqb-true p.by t is) ∙ gone in
            let nothing : List ℕ = [] in
            rw (is, none, take_all p.count nothing (omega arith)) (left-done ps)
        | inr isnt ↦ rw (isnt, same p.by isnt) (ap (λ v. take p.count (own p.by) ++ v) (left-done ps))
      ]

  -- t first, with all that it did
  abbrev t_first : List Part → List Part
  t_first ps = (record { by = t; count = length (own t) }) ∷ without_t ps

  after_t : (ps : List Part) (w : List ℕ) → IsLegal T (Some base) (done_in_parts own (t_first ps) ++ w) → IsLegal T (Some now) (done_in_parts left ps ++ w)
  after_t ps w legal =
      let all : take (length (own t)) (own t) ≡ own t = take_all (length (own t)) (own t) (omega arith) in
      let whole : done_in_parts own (t_first ps) ++ w ≡ own t ++ (done_in_parts left ps ++ w) =
      ap (λ v. (v ++ done_in_parts own (without_t ps)) ++ w) all ∙ append_assoc (own t) (done_in_parts own (without_t ps)) w ∙ ap (λ v. own t ++ (v ++ w)) (sym (left-done ps)) in
      legal-behind along T (Some base) (own t) (done_in_parts left ps ++ w) now reached (subst (IsLegal T (Some base)) whole legal)

  pub safe-committed : IsSafe T base own → IsSafe T now left
  safe-committed safe u ps others =
      elim (cases_Bool (u == t)) [
        | inl is ↦
            let v : ℕ = t + suc (bound ps) in
            let apart : AllByRecursion (λ (p : Part). (p.by == v) ≡ false) (without_t ps) = each-filter (λ (p : Part). (p.by == v) ≡ false) (λ p. not (p.by == t)) ps (fresh-apart v ps (omega arith)) in
            let first : AreOthers v (t_first ps) = (ne_eqb t v (λ h. omega (arith, h)), filtered-apart t ps, others-than u v (without_t ps) (others-filter u t ps others) apart) in
            let done : IsLegal T (Some base) (done_in_parts own (t_first ps)) = legal-front T (Some base) (done_in_parts own (t_first ps)) (own v) (safe v (t_first ps) first) in
            let none : left u ≡ [] = ap left (eqb-true u t is) ∙ gone in
            rw none (after_t ps [] (rw (append-nil (done_in_parts own (t_first ps))) done))
        | inr other ↦
            let first : AreOthers u (t_first ps) = (eqb-sym t u ∙ other, filtered-apart t ps, others-filter u t ps others) in
            rw (same u other) (after_t ps (own u) (safe u (t_first ps) first))
      ]
