-- One of those that are prepared, as it is looked for.
use Rattle.std.proofs.Common.{◌≡◌, ℕ, if◌then◌else◌, List, [], ◌∷◌, Some, refl, ap}
use Rattle.std.specs.Prelude.{Bool, ◌||◌, ◌==◌}
use Rattle.std.specs.List.{find, list_any}
use Rattle.serial_order.specs.Operations.{is_among}
use Rattle.journal.specs.declared.prepared_row.Prepared.{Prepared}
use Rattle.durable_store.specs.Held.{first_passing, has_number, prepared_numbers}

-- the first one is the one that is found
pub finds : (test : Prepared → Bool) (ps : List Prepared) → find test ps ≡ first_passing test ps
finds test [] = refl
finds test (p ∷ ps) = ap (λ rest. if test p then Some p else rest) (finds test ps)

-- a transaction is one of them where it is one of their numbers
pub any-number : (t : ℕ) (ps : List Prepared) → list_any (has_number t) ps ≡ is_among (prepared_numbers ps) t
any-number t [] = refl
any-number t (p ∷ ps) = ap (λ rest. p.number == t || rest) (any-number t ps)
