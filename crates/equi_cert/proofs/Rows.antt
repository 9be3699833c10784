-- Relations as rows of tests.
use Rattle.std.proofs.Common.{◌≡◌, ℕ, ◌<◌, ◌≤◌, Bool, false, List, [], length, map, get_or, sym, ap, ◌∙◌, inl, inr, arith}
use Rattle.std.specs.List.{range_with_len}
use Rattle.std.proofs.lemmas.Bool.{cases_lt}
use Rattle.std.proofs.lemmas.List.{get_or_past, ext_get_or}
use Rattle.std.proofs.lemmas.List.FromFn.{get_or-map-range_with_len, length-map-range_with_len}
use Rattle.type_table.specs.ConflictTable.{conflict_row, IsSquare}
use Rattle.equi_cert.specs.Relation.{relates, rows_by}
use Rattle.equi_cert.specs.Laws.{SamePairs}

-- ---- the rows of a test

pub length-rows_by : (states : ℕ) (test : ℕ → ℕ → Bool) → length (rows_by states test) ≡ states
length-rows_by states test = length-map-range_with_len (λ s. map (test s) (range_with_len 0 states)) 0 states

row-rows_by : (states s : ℕ) (test : ℕ → ℕ → Bool) → s < states → conflict_row (rows_by states test) s ≡ map (test s) (range_with_len 0 states)
row-rows_by states s test below = get_or-map-range_with_len (λ a. map (test a) (range_with_len 0 states)) 0 states s s [] below (omega arith)

-- a cell is its test
pub relates-rows_by : (states s t : ℕ) (test : ℕ → ℕ → Bool) → s < states → t < states → relates (rows_by states test) s t ≡ test s t
relates-rows_by states s t test s_in t_in =
    ap (λ cells. get_or cells t false) (row-rows_by states s test s_in) ∙ get_or-map-range_with_len (test s) 0 states t t false t_in (omega arith)

-- there is a row for each state, of a cell for each state
pub square-rows_by : (states : ℕ) (test : ℕ → ℕ → Bool) → IsSquare states (rows_by states test)
square-rows_by states test = record {
  height = length-rows_by states test;
  width = λ s below. ap length (row-rows_by states s test below) ∙ length-map-range_with_len (test s) 0 states;
}

-- ---- square rows

-- no pair is outside
pub relates-past_first : (states s t : ℕ) (rows : List (List Bool)) → IsSquare states rows → states ≤ s → relates rows s t ≡ false
relates-past_first states s t rows square past =
    ap (λ cells. get_or cells t false) (get_or_past rows s [] (omega (arith, square.height))) ∙ get_or_past [] t false (omega arith)

pub relates-past_second : (states s t : ℕ) (rows : List (List Bool)) → IsSquare states rows → states ≤ t → relates rows s t ≡ false
relates-past_second states s t rows square past =
    elim (cases_lt s states) [
      | inl below ↦ get_or_past (conflict_row rows s) t false (omega (arith, square.width s below))
      | inr above ↦ relates-past_first states s t rows square above
    ]

-- relations with the same pairs are equal
pub same-pairs : SamePairs
same-pairs states old new old_square new_square same =
    ext_get_or [] old new (old_square.height ∙ sym new_square.height) (λ s s_below.
    let s_in : s < states = omega (arith, old_square.height) in
    let old_width = old_square.width s s_in in
    ext_get_or false (conflict_row old s) (conflict_row new s) (old_width ∙ sym (new_square.width s s_in)) (λ t t_below. same s t s_in (omega (arith, old_width))))
