-- Which triples fail.
use Rattle.std.proofs.Common.{◌≡◌, ℕ, ◌<◌, Bool, true, false, not, ◌&&◌, List, length, refl, sym, subst, ◌∙◌, ◌↔◌, inl, inr, Option, Some, None, is_some, MatchOption}
use Rattle.std.proofs.lemmas.Bool.{false≢true}
use Rattle.type_table.specs.ConflictTable.{conflicts}
use Rattle.type_table.specs.declared.kind.Kind.{Kind}
use Rattle.type_table.specs.declared.kind.Kind.TheVariants.{Undo}
use Rattle.declared_types.specs.declared.type_file.TypeFile.{TypeFile}
use Rattle.table_checker.specs.Condition.{fails_in_set, fails_at, PassesEverywhere, IsFirstFailure}
use Rattle.table_checker.specs.Scan.{IsFirstHeld}
use Rattle.table_checker.specs.Checked.{Checked, IsStrong, IsStrongBy}
use Rattle.table_checker.specs.declared.condition.Condition.{Condition}
use Rattle.table_checker.specs.declared.condition.Condition.TheVariants.{BackwardBothWays}
use Rattle.table_checker.proofs.Numbers.{before_cases}

-- a pair of the conflict table fails nowhere
pub conflicting_passes : (condition : Condition) (file : TypeFile) (rows : List (List Bool)) (p q s : ℕ) →
    conflicts rows p q ≡ true → fails_at condition file rows p q s ≡ false
conflicting_passes condition file rows p q s h = rw h refl

-- a search that answers the first failure or none answers none just where each triple passes
pub none-iff : {A : Type 0} (condition : Condition) (file : TypeFile) (rows : List (List Bool)) (p q s : A → ℕ) (o : Option A) (b : Bool) → is_some o ≡ not b →
    MatchOption o (PassesEverywhere condition file rows) (λ f. IsFirstFailure condition file rows (p f) (q f) (s f)) →
    (b ≡ true) ↔ PassesEverywhere condition file rows
none-iff condition file rows p q s None true e h = (λ yes. h, λ all. refl)
none-iff condition file rows p q s None false e h = absurd (false≢true e)
none-iff condition file rows p q s (Some f) true e h = absurd (false≢true (sym e))
none-iff condition file rows p q s (Some f) false e h =
    (λ yes. absurd (false≢true yes), λ all. absurd (false≢true (sym (all (p f) (q f) (s f) h.inside) ∙ h.fails)))

-- what passes doesn't fail
pub passing_passes : (condition : Condition) (file : TypeFile) (rows : List (List Bool)) (p q s : ℕ) →
    fails_in_set condition file p q s ≡ false → fails_at condition file rows p q s ≡ false
passing_passes condition file rows p q s h = rw h (and_false (conflicts rows p q))
  where
    and_false : (b : Bool) → (not b && false) ≡ false
    and_false true = refl
    and_false false = refl

-- a pair outside the table that doesn't pass fails
pub failing_fails : (condition : Condition) (file : TypeFile) (rows : List (List Bool)) (p q s : ℕ) →
    conflicts rows p q ≡ false → fails_in_set condition file p q s ≡ true → fails_at condition file rows p q s ≡ true
failing_fails condition file rows p q s h k = rw (h, k) refl

-- the first failure at a requested operation is the first of all where the operations before it never fail
pub first-failure : (condition : Condition) (file : TypeFile) (rows : List (List Bool)) (p q s : ℕ) → p < length file.table.ops →
    ((a b r : ℕ) → a < p → b < length file.table.ops → r < file.table.states → fails_at condition file rows a b r ≡ false) →
    IsFirstHeld condition file rows p q s → IsFirstFailure condition file rows p q s
first-failure condition file rows p q s p_in earlier h = record {
  inside = record { requested = p_in; held = h.held; state = h.state };
  fails = h.fails;
  first = λ a b r inside less. elim (before_cases file.table p q s a b r h.held h.state less) [
    | inl above ↦ earlier a b r above inside.held inside.state
    | inr rest ↦ elim (rest.1) [
      | inl lesser ↦ rw rest.0 (h.first_held b r lesser inside.state)
      | inr same ↦ rw (rest.0, same.0) (h.first_state r same.1)
    ]
  ];
}

-- a yes for update in place is strong just where each pair meets the two-way condition
pub strong-undo : (c : Checked) (b : Bool) → c.kind ≡ Undo → (b ≡ true) ↔ PassesEverywhere BackwardBothWays c.file c.file.undo → (b ≡ true) ↔ IsStrong c
strong-undo c b e h = subst (λ (kind : Kind). (b ≡ true) ↔ IsStrongBy kind c.file) (sym e) h
