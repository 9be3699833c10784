-- Which pairs a conflict table has, as the pairs that fail somewhere are added.
use Rattle.std.proofs.Common.{◌≡◌, ℕ, ◌+◌, ◌<◌, ◌≤◌, ◌⊎◌, ◌↔◌, Bool, true, false, List, length, sym, subst, ◌∙◌, inl, inr, arith}
use Rattle.std.proofs.lemmas.Bool.{false≢true, cases_lt}
use Rattle.type_table.specs.ConflictTable.{conflicts, IsSquare}
use Rattle.declared_types.specs.declared.type_file.TypeFile.{TypeFile}
use Rattle.table_checker.specs.declared.condition.Condition.{Condition}
use Rattle.table_maker.specs.MadeConflicts.{FailsSomewhere, AddsFailing, AreMadeConflicts}

-- the pairs are those of a requested operation below p, and any held one, that fail somewhere
abbrev pub AreFailingBelow : Condition → TypeFile → ℕ → List (List Bool) → Type 0
AreFailingBelow condition file p rows =
    (a b : ℕ) → (conflicts rows a b ≡ true) ↔ ((a < p) × (b < length file.table.ops) × FailsSomewhere condition file a b)

-- nothing is added of the operations below 0
pub adds_none : (condition : Condition) (file : TypeFile) (p : ℕ) (rows : List (List Bool)) → AddsFailing condition file p 0 rows rows
adds_none condition file p rows = λ a b. (λ was. inl was, λ either. elim either [ inl was ↦ was | inr added ↦ absurd (omega (arith, added.1)) ])

-- one more held operation
pub adds_more : (condition : Condition) (file : TypeFile) (p q : ℕ) (old now new : List (List Bool)) → AddsFailing condition file p q old now →
    ((a b : ℕ) → (conflicts new a b ≡ true) ↔ ((conflicts now a b ≡ true) ⊎ ((a ≡ p) × (b ≡ q) × FailsSomewhere condition file p q))) →
    AddsFailing condition file p (q + 1) old new
adds_more condition file p q old now new so_far step = λ a b. (
  λ h. elim ((step a b).0 h) [
    | inl before ↦ elim ((so_far a b).0 before) [
      | inl was ↦ inl was
      | inr added ↦ inr (added.0, omega (arith, added.1), added.2)
    ]
    | inr here ↦ inr (here.0, omega (arith, here.1), let P : ℕ → Type 0 = λ n. FailsSomewhere condition file p n in subst P (sym here.1) here.2)
  ],
  λ either. elim either [
    | inl was ↦ (step a b).1 (inl ((so_far a b).1 (inl was)))
    | inr added ↦ elim (cases_lt b q) [
      | inl below ↦ (step a b).1 (inl ((so_far a b).1 (inr (added.0, below, added.2))))
      | inr past ↦
          let here : b ≡ q = omega (arith, added.1) in
          let P : ℕ → Type 0 = λ n. FailsSomewhere condition file p n in
          (step a b).1 (inr (added.0, here, subst P here added.2))
    ]
  ],
)

-- a table of no pair
pub failing_none : (condition : Condition) (file : TypeFile) (rows : List (List Bool)) → ((p q : ℕ) → conflicts rows p q ≡ false) → AreFailingBelow condition file 0 rows
failing_none condition file rows none = λ a b. (λ h. absurd (false≢true (sym (none a b) ∙ h)), λ h. absurd (omega (arith, h.0)))

-- one more requested operation
pub failing_more : (condition : Condition) (file : TypeFile) (p : ℕ) (old new : List (List Bool)) → AreFailingBelow condition file p old →
    AddsFailing condition file p (length file.table.ops) old new → AreFailingBelow condition file (p + 1) new
failing_more condition file p old new so_far step = λ a b. (
  λ h. elim ((step a b).0 h) [
    | inl before ↦ let was = (so_far a b).0 before in (omega (arith, was.0), was.1, was.2)
    | inr here ↦ (omega (arith, here.0), here.1, let P : ℕ → Type 0 = λ n. FailsSomewhere condition file n b in subst P (sym here.0) here.2)
  ],
  λ h. elim (cases_lt a p) [
    | inl below ↦ (step a b).1 (inl ((so_far a b).1 (below, h.1, h.2)))
    | inr past ↦
        let here : a ≡ p = omega (arith, h.0) in
        let P : ℕ → Type 0 = λ n. FailsSomewhere condition file n b in
        (step a b).1 (inr (here, h.1, subst P here h.2))
  ],
)

-- all requested operations
pub failing_all : (condition : Condition) (file : TypeFile) (p : ℕ) (rows : List (List Bool)) → IsSquare (length file.table.ops) rows →
    AreFailingBelow condition file p rows → length file.table.ops ≤ p → AreMadeConflicts condition file rows
failing_all condition file p rows square failing past = record {
  square = square;
  exact = λ a b a_in b_in. (λ h. ((failing a b).0 h).2, λ h. (failing a b).1 (omega (arith, past), b_in, h));
}
