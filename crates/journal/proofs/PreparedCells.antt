-- A prepared transaction's row from its columns.
use Rattle.std.proofs.Common.{◌≡◌, ℕ, [], ◌∷◌, length, Option, Some, None, refl, arith, ◌∙◌}
use Rattle.std.specs.Prelude.{pos, IfSome}
use Rattle.sqlite_value.specs.declared.value.Value.TheVariants.{Null, Int}
use Rattle.sqlite_value.specs.Order.{Row, column}
use Rattle.journal.specs.declared.prepared_row.Prepared.{Prepared}
use Rattle.journal.specs.PreparedRow.{ToldPrepared, prepared_row}

-- a row of seven columns is these
seven : (row : Row) → length row ≡ 7 → row ≡ column row 0 ∷ column row 1 ∷ column row 2 ∷ column row 3 ∷ column row 4 ∷ column row 5 ∷ column row 6 ∷ []
seven [] many = absurd (omega (arith, many))
seven (a ∷ []) many = absurd (omega (arith, many))
seven (a ∷ b ∷ []) many = absurd (omega (arith, many))
seven (a ∷ b ∷ c ∷ []) many = absurd (omega (arith, many))
seven (a ∷ b ∷ c ∷ d ∷ []) many = absurd (omega (arith, many))
seven (a ∷ b ∷ c ∷ d ∷ e ∷ []) many = absurd (omega (arith, many))
seven (a ∷ b ∷ c ∷ d ∷ e ∷ f ∷ []) many = absurd (omega (arith, many))
seven (a ∷ b ∷ c ∷ d ∷ e ∷ f ∷ g ∷ []) many = refl
seven (a ∷ b ∷ c ∷ d ∷ e ∷ f ∷ g ∷ h ∷ row) many = absurd (omega (arith, many))

-- one at a position whose columns say a prepared transaction is its row
pub told_row : (row : Row) (p : ℕ) (found : Option Prepared) → length row ≡ 7 → column row 0 ≡ Int (pos p) → column row 1 ≡ Null → IfSome found (λ q. ToldPrepared row q) → IfSome found (λ q. row ≡ prepared_row p q)
told_row row p None many at own told = tt
told_row row p (Some q) many at own told = seven row many ∙ rw (at, own, told.key, told.life, told.given, told.number, told.until) refl
