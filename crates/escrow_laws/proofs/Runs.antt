-- Runs of operations that move numbers.
use Rattle.std.proofs.Common.{◌≡◌, ℕ, ◌+◌, ◌≤◌, List, [], ◌∷◌, ◌++◌, Option, Some, None, refl, arith}
use Rattle.type_table.specs.Table.{Table, next}
use Rattle.type_table.specs.Run.{run, IsLegal}
use Rattle.type_table.proofs.Legal.{some_state, is_there, nothing_legal}
use Rattle.escrow_laws.specs.Amounts.{Amounts, IsNumeric, fall, rise}

-- ---- steps

-- the first step of a legal list
pub legal-step : (T : Table) (s k : ℕ) (ks : List ℕ) → IsLegal T (Some s) (k ∷ ks) → (t : ℕ) × (next T s k ≡ Some t) × IsLegal T (Some t) ks
legal-step T s k ks h = there (next T s k) refl h
  where
    there : (o : Option ℕ) → next T s k ≡ o → IsLegal T o ks → (t : ℕ) × (next T s k ≡ Some t) × IsLegal T (Some t) ks
    there None e legal = absurd (nothing_legal T ks legal)
    there (Some t) e legal = (t, e, legal)

-- the first step of a run
pub run-step : (T : Table) (s k e : ℕ) (ks : List ℕ) → run T (Some s) (k ∷ ks) ≡ Some e → (t : ℕ) × (next T s k ≡ Some t) × (run T (Some t) ks ≡ Some e)
run-step T s k e ks is =
    let step = legal-step T s k ks (is_there (run T (next T s k) ks) e is) in
    (step.0, step.1, rw step.1 at is)

-- and the converse
pub step-legal : (T : Table) (s k t : ℕ) (ks : List ℕ) → next T s k ≡ Some t → IsLegal T (Some t) ks → IsLegal T (Some s) (k ∷ ks)
step-legal T s k t ks e legal = rw e legal

-- ---- how far they move

-- a run ends no further below its start than it falls, and no further above than it rises
pub run-moved : (T : Table) (a : Amounts) → IsNumeric T a → (s e : ℕ) (ks : List ℕ) → run T (Some s) ks ≡ Some e → (s ≤ e + fall a ks) × (e ≤ s + rise a ks)
run-moved T a numeric s e [] is =
    let same : s ≡ e = cc in
    (omega arith, omega arith)
run-moved T a numeric s e (k ∷ ks) is =
    let step = legal-step T s k ks (is_there (run T (next T s k) ks) e is) in
    let rest = run-moved T a numeric step.0 e ks (rw step.1 at is) in
    let by = numeric.moves s k step.0 step.1 in
    (omega (arith, rest.0, by), omega (arith, rest.1, by))

-- a front falls no further
pub front-falls : (a : Amounts) (v w : List ℕ) → fall a v ≤ fall a (v ++ w)
front-falls a [] w = omega arith
front-falls a (k ∷ v) w = let rest = front-falls a v w in omega (arith, rest)

-- and rises no further
pub front-rises : (a : Amounts) (v w : List ℕ) → rise a v ≤ rise a (v ++ w)
front-rises a [] w = omega arith
front-rises a (k ∷ v) w = let rest = front-rises a v w in omega (arith, rest)

-- ---- between two numbers

-- what is legal from two numbers is legal from each between them
pub legal-between : (T : Table) (a : Amounts) → IsNumeric T a → (low s high : ℕ) (ks : List ℕ) → low ≤ s → s ≤ high → IsLegal T (Some low) ks → IsLegal T (Some high) ks → IsLegal T (Some s) ks
legal-between T a numeric low s high [] above under from_low from_high = refl
legal-between T a numeric low s high (k ∷ ks) above under from_low from_high =
    let lower = legal-step T low k ks from_low in
    let upper = legal-step T high k ks from_high in
    let middle = some_state (next T s k) (numeric.between low s high k above under (is_there (next T low k) lower.0 lower.1) (is_there (next T high k) upper.0 upper.1)) in
    let low_moves = numeric.moves low k lower.0 lower.1 in
    let high_moves = numeric.moves high k upper.0 upper.1 in
    let moves = numeric.moves s k middle.0 middle.1 in
    step-legal T s k middle.0 ks middle.1
    (legal-between T a numeric lower.0 middle.0 upper.0 ks (omega (arith, low_moves, moves, above)) (omega (arith, high_moves, moves, under)) lower.2 upper.2)
