-- When two operations commute (Weihl, The Impact of Recovery on Concurrency Control), and which conflict tables are enough.
use Rattle.std.specs.Prelude.{◌≡◌, ℕ, Bool, true, false, [], ◌∷◌, Some, IsSome}
use Rattle.type_table.specs.Table.{Table, next}
use Rattle.type_table.specs.Run.{run, IsLegal, Looks, AreEqui}
use Rattle.type_table.specs.StateSet.{IsClosed}
use Rattle.type_table.specs.declared.table_kind.TableKind.{TableKind}
use Rattle.type_table.specs.declared.table_kind.TableKind.TheVariants.{Undo, Intentions}

-- forward: wherever both p and q are legal, each order is legal and the two ends are equieffective
abbrev pub CommuteForward : Table → (ℕ → Bool) → ℕ → ℕ → Type 0
CommuteForward T set p q =
    (s : ℕ) → set s ≡ true → IsSome (next T s p) → IsSome (next T s q)
    → IsLegal T (Some s) (p ∷ q ∷ []) × IsLegal T (Some s) (q ∷ p ∷ []) × AreEqui T (run T (Some s) (p ∷ q ∷ [])) (run T (Some s) (q ∷ p ∷ []))

-- p, requested, right commutes backward with q, held: wherever q and then p is legal, p and then q is, and q then p looks like p then q
abbrev pub CommutesBackward : Table → (ℕ → Bool) → ℕ → ℕ → Type 0
CommutesBackward T set p q =
    (s : ℕ) → set s ≡ true → IsLegal T (Some s) (q ∷ p ∷ [])
    → IsLegal T (Some s) (p ∷ q ∷ []) × Looks T (run T (Some s) (q ∷ p ∷ [])) (run T (Some s) (p ∷ q ∷ []))

-- the two-way form: the two ends are equieffective
abbrev pub CommutesBackwardBothWays : Table → (ℕ → Bool) → ℕ → ℕ → Type 0
CommutesBackwardBothWays T set p q =
    (s : ℕ) → set s ≡ true → IsLegal T (Some s) (q ∷ p ∷ [])
    → IsLegal T (Some s) (p ∷ q ∷ []) × AreEqui T (run T (Some s) (q ∷ p ∷ [])) (run T (Some s) (p ∷ q ∷ []))

-- what a kind of recovery needs of a pair that doesn't conflict
abbrev pub Commutes : TableKind → Table → (ℕ → Bool) → ℕ → ℕ → Type 0
Commutes Undo = CommutesBackward
Commutes Intentions = CommuteForward

-- the same, and what the stronger claim on kept states needs
abbrev pub CommutesStrongly : TableKind → Table → (ℕ → Bool) → ℕ → ℕ → Type 0
CommutesStrongly Undo = CommutesBackwardBothWays
CommutesStrongly Intentions = CommuteForward

-- a conflict table is enough for a kind: in a closed set with the initial state, each pair outside the table commutes
pub record Covers (kind : TableKind) (T : Table) (set : ℕ → Bool) (conflicting : ℕ → ℕ → Bool) : Type 0 where
  pub begins_inside : set T.initial ≡ true
  pub closed : IsClosed T set
  pub commute : (p q : ℕ) → conflicting p q ≡ false → Commutes kind T set p q

pub record CoversStrongly (kind : TableKind) (T : Table) (set : ℕ → Bool) (conflicting : ℕ → ℕ → Bool) : Type 0 where
  pub begins_inside : set T.initial ≡ true
  pub closed : IsClosed T set
  pub commute : (p q : ℕ) → conflicting p q ≡ false → CommutesStrongly kind T set p q
