-- Escrow: the lines of the bounds of operations, and of the states that show that a type isn't numeric.
use Rattle.std.specs.Prelude.{ℕ, List, [], ◌∷◌, ◌++◌, nat_lt, codes, if◌then◌else◌}
use Rattle.std.specs.Fmt.{decimal}
use Rattle.std.specs.List.{flat_map}
use Rattle.type_table.specs.Table.{Table}
use Rattle.escrow_laws.specs.Bounds.{bounded_at}
use Rattle.escrow_laws.specs.declared.bounded.Bounded.{Bounded}
use Rattle.pair_needs.specs.declared.numeric_fault.WhyNot.{WhyNot}
use Rattle.pair_needs.specs.declared.numeric_fault.WhyNot.TheVariants.{Gap, Move}
use Rattle.need_text.specs.Text.{op_words}

-- ---- `bounds OP LOW HIGH MOVE`

-- how far the operation moves a number: up, down, or not
abbrev pub move_word : Bounded → List ℕ
move_word b = if nat_lt 0 b.gives then 43 ∷ decimal b.gives else (if nat_lt 0 b.takes then 45 ∷ decimal b.takes else codes "0")

-- numbers after a line's first words
abbrev pub spaced_numbers : List ℕ → List ℕ
spaced_numbers ns = flat_map (λ n. 32 ∷ decimal n) ns

abbrev pub bounds_words : Bounded → List ℕ
bounds_words b = if nat_lt b.high b.low then codes " never" else spaced_numbers (b.low ∷ b.high ∷ []) ++ (32 ∷ move_word b)

abbrev pub bounds_line : Table → ℕ → List ℕ
bounds_line T k = codes "bounds" ++ (op_words T (k ∷ []) ++ (bounds_words (bounded_at T k) ++ 10 ∷ []))

-- of these operations
abbrev pub bounds_text : Table → List ℕ → List ℕ
bounds_text T ks = flat_map (bounds_line T) ks

-- ---- why a type isn't numeric

abbrev pub fault_line : List ℕ → Table → ℕ → List ℕ → List ℕ
fault_line keyword T k numbers = keyword ++ (op_words T (k ∷ []) ++ (spaced_numbers numbers ++ 10 ∷ []))

-- `gap OP LOW S HIGH`, and `moves OP LOW END S END`
abbrev pub why_not_line : Table → ℕ → ℕ → WhyNot → List ℕ
why_not_line T k s (Gap low high) = fault_line (codes "gap") T k (low ∷ s ∷ high ∷ [])
why_not_line T k s (Move low low_end end) = fault_line (codes "moves") T k (low ∷ low_end ∷ s ∷ end ∷ [])
