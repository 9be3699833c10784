-- Amounts from which another transaction keeps one: what is told of them, and that a table has none.
use Rattle.std.proofs.Common.{◌≡◌, ℕ, ◌+◌, ◌≤◌, ◌⊎◌, [], ◌∷◌, length, Option, Some, None, refl, subst, inl, inr, arith}
use Rattle.std.proofs.lemmas.Bool.{le-ltb}
use Rattle.type_table.specs.Operation.{operation_at}
use Rattle.type_table.specs.Table.{Table, IsTable, next}
use Rattle.type_table.specs.Run.{IsLegal}
use Rattle.type_table.proofs.Legal.{nothing_legal}
use Rattle.object_trait.specs.Meaning.{Meaning, view_of}
use Rattle.object_trait.specs.Steps.{IsKeptByAmount, TellsKept}

-- ---- what is told

-- an amount, from which one is kept
pub told-some : (m : Meaning) (t place u n : ℕ) → IsKeptByAmount m t place u n → TellsKept m t place u (Some n)
told-some m t place u n is = record {
  kept = λ j same. let both : n ≡ j = cc in subst (IsKeptByAmount m t place u) both is;
  all = λ _ _. refl;
}

-- or none, where one is kept from none
pub told-none : (m : Meaning) (t place u : ℕ) → ((n : ℕ) → IsKeptByAmount m t place u n → ⊥) → TellsKept m t place u None
told-none m t place u none = record { kept = λ j same. absurd cc; all = λ n is. absurd (none n is) }

-- ---- of a table

-- what is no operation leads nowhere
next-past : (T : Table) (s k : ℕ) → length T.ops ≤ k → next T s k ≡ None
unfolding next
next-past T s k past = rw (le-ltb k (length T.ops) past) refl

-- so it is legal nowhere
past-legal : (T : Table) (from : Option ℕ) (k : ℕ) → length T.ops ≤ k → IsLegal T from (k ∷ []) → ⊥
past-legal T None k past legal = nothing_legal T (k ∷ []) legal
past-legal T (Some s) k past legal = nothing_legal T [] (rw (next-past T s k past) at legal)

-- an operation with an amount is none of a table's
amount-past : (T : Table) → IsTable T → (place n k : ℕ) → (k ≡ operation_at place (Some n)) ⊎ (k ≡ operation_at (place + 1) (Some n)) → length T.ops ≤ k
amount-past T table place n k (inl same) = let few = table.ops_fit in omega (arith, few, same)
amount-past T table place n k (inr same) = let few = table.ops_fit in omega (arith, few, same)

-- so at a table one is kept from no amount
pub told-of-table : (m : Meaning) → IsTable m.checked.file.table → (t place u : ℕ) → TellsKept m t place u None
told-of-table m table t place u =
    told-none m t place u (λ n (k, which, legal, stops).
    past-legal m.checked.file.table (view_of m t) k (amount-past m.checked.file.table table place n k which) legal)
