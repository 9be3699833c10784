-- The exact relation, as pairs with no distance are added.
use Rattle.std.proofs.Common.{◌≡◌, ◌⊎◌, ◌↔◌, ℕ, ◌+◌, ◌<◌, ◌≤◌, ◌==◌, Bool, true, false, List, [], get_or, Option, Some, None, refl, sym, ap, ◌∙◌, subst, inl, inr, arith}
use Rattle.std.proofs.lemmas.Bool.{false≢true, cases_lt, eqb-true}
use Rattle.std.proofs.lemmas.List.{get_or_past}
use Rattle.type_table.specs.Table.{Table}
use Rattle.type_table.specs.Run.{Looks}
use Rattle.type_table.specs.ConflictTable.{conflict_row, IsSquare}
use Rattle.equi_cert.specs.Relation.{relates}
use Rattle.exact_tables.specs.Tell.{IsDistance}
use Rattle.exact_tables.specs.Distances.{Cells, distance, AreDistances, AddsAlike}
use Rattle.exact_tables.specs.Exact.{IsExact}

-- ---- pairs of one first state

pub adds-none : (d : Cells) (s : ℕ) (rows : List (List Bool)) → AddsAlike d s 0 rows rows
adds-none d s rows = λ a b. (λ was. inl was, λ either. elim either [ inl was ↦ was | inr added ↦ absurd (omega (arith, added.1)) ])

-- one more second state, which has no distance
pub adds-more : (d : Cells) (s t : ℕ) (old now new : List (List Bool)) → distance d s t ≡ None → AddsAlike d s t old now →
    ((a b : ℕ) → (relates new a b ≡ true) ↔ ((relates now a b ≡ true) ⊎ ((a ≡ s) × (b ≡ t)))) → AddsAlike d s (t + 1) old new
adds-more d s t old now new alike so_far step = λ a b. (
  λ h. elim ((step a b).0 h) [
    | inl before ↦ elim ((so_far a b).0 before) [
      | inl was ↦ inl was
      | inr added ↦ inr (added.0, omega (arith, added.1), added.2)
    ]
    | inr here ↦ inr (here.0, omega (arith, here.1), rw (here.0, here.1) alike)
  ],
  λ either. elim either [
    | inl was ↦ (step a b).1 (inl ((so_far a b).1 (inl was)))
    | inr added ↦ elim (cases_lt b t) [
      | inl below ↦ (step a b).1 (inl ((so_far a b).1 (inr (added.0, below, added.2))))
      | inr past ↦ (step a b).1 (inr (added.0, omega (arith, past, added.1)))
    ]
  ],
)

-- or which has one
pub adds-skip : (d : Cells) (s t : ℕ) (old now : List (List Bool)) → (distance d s t ≡ None → ⊥) → AddsAlike d s t old now → AddsAlike d s (t + 1) old now
adds-skip d s t old now apart so_far = λ a b. (
  λ h. elim ((so_far a b).0 h) [
    | inl was ↦ inl was
    | inr added ↦ inr (added.0, omega (arith, added.1), added.2)
  ],
  λ either. elim either [
    | inl was ↦ (so_far a b).1 (inl was)
    | inr added ↦ elim (cases_lt b t) [
      | inl below ↦ (so_far a b).1 (inr (added.0, below, added.2))
      | inr past ↦
          let here : b ≡ t = omega (arith, past, added.1) in
          absurd (apart (rw (here, added.0) at added.2))
    ]
  ],
)

-- ---- all first states

-- the pairs that were there, and those of the first states that have no distance
abbrev pub AreAlikeBelow : Cells → ℕ → List (List Bool) → List (List Bool) → Type 0
AreAlikeBelow d n old new = (a b : ℕ) → (relates new a b ≡ true) ↔ ((relates old a b ≡ true) ⊎ ((a < n) × (b < d.states) × (distance d a b ≡ None)))

pub alike-none : (d : Cells) (rows : List (List Bool)) → AreAlikeBelow d 0 rows rows
alike-none d rows = λ a b. (λ was. inl was, λ either. elim either [ inl was ↦ was | inr added ↦ absurd (omega (arith, added.0)) ])

pub alike-more : (d : Cells) (s : ℕ) (old now new : List (List Bool)) → AreAlikeBelow d s old now → AddsAlike d s d.states now new → AreAlikeBelow d (s + 1) old new
alike-more d s old now new so_far step = λ a b. (
  λ h. elim ((step a b).0 h) [
    | inl before ↦ elim ((so_far a b).0 before) [
      | inl was ↦ inl was
      | inr added ↦ inr (omega (arith, added.0), added.1, added.2)
    ]
    | inr here ↦ inr (omega (arith, here.0), here.1, here.2)
  ],
  λ either. elim either [
    | inl was ↦ (step a b).1 (inl ((so_far a b).1 (inl was)))
    | inr added ↦ elim (cases_lt a s) [
      | inl below ↦ (step a b).1 (inl ((so_far a b).1 (inr (below, added.1, added.2))))
      | inr past ↦ (step a b).1 (inr (omega (arith, past, added.0), added.1, added.2))
    ]
  ],
)

-- ---- the end

-- square rows have no pair outside
pair-inside : (states a b : ℕ) (rows : List (List Bool)) → IsSquare states rows → relates rows a b ≡ true → (a < states) × (b < states)
pair-inside states a b rows square h =
    elim (cases_lt a states) [
      | inl a_in ↦ elim (cases_lt b states) [
        | inl b_in ↦ (a_in, b_in)
        | inr past ↦ absurd (false≢true (sym (get_or_past (conflict_row rows a) b false (omega (arith, square.width a a_in, past))) ∙ h))
      ]
      | inr past ↦
          let none : conflict_row rows a ≡ [] = get_or_past rows a [] (omega (arith, square.height, past)) in
          absurd (false≢true (sym (ap (λ (cells : List Bool). get_or cells b false) none) ∙ h))
    ]

-- what has no distance looks alike, and what looks alike has none
looks-none : (T : Table) (d : Cells) (a b : ℕ) → AreDistances T d → a < T.states → b < T.states → (distance d a b ≡ None) ↔ Looks T (Some a) (Some b)
looks-none T d a b h a_in b_in = (
  λ none. subst (λ o. IsDistance T a b o) none (h.each a b a_in b_in),
  λ looks. by_case (distance d a b) (h.each a b a_in b_in) looks,
)
  where
    by_case : (o : Option ℕ) → IsDistance T a b o → Looks T (Some a) (Some b) → o ≡ None
    by_case None is looks = refl
    by_case (Some n) is looks = absurd ((is.tells).1 (looks is.list (is.tells).0))

pub exact-all : (T : Table) (d : Cells) (n : ℕ) (old new : List (List Bool)) → AreDistances T d → T.states ≤ n → IsSquare T.states new →
    ((s t : ℕ) → s < T.states → t < T.states → relates old s t ≡ (s == t)) → AreAlikeBelow d n old new → IsExact T (relates new)
exact-all T d n old new h all square equal pairs = λ a b. (
  λ pair.
      let inside = pair-inside T.states a b new square pair in
      elim ((pairs a b).0 pair) [
        | inl was ↦
            let same : a ≡ b = eqb-true a b (sym (equal a b inside.0 inside.1) ∙ was) in
            (inside.0, inside.1, λ w legal. rw (sym same) legal)
        | inr added ↦ (inside.0, inside.1, (looks-none T d a b h inside.0 inside.1).0 added.2)
      ],
  λ like. (pairs a b).1 (inr (omega (arith, like.0, all), omega (arith, like.1, h.states), (looks-none T d a b h like.0 like.1).1 like.2)),
)
