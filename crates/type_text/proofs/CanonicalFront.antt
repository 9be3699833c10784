-- The first lines of a canonical text, and what the lines after them know from them.
use Rattle.std.proofs.Common.{◌≡◌, ℕ, zero, suc, ◌+◌, ◌-◌, ◌<◌, true, cond, eqb, List, [], ◌∷◌, ◌++◌, length, Some, refl, ap, ◌∙◌, arith}
use Rattle.std.specs.List.{slice_get, sum_by}
use Rattle.std.proofs.lemmas.Bool.{lt-ltb}
use Rattle.std.proofs.lemmas.List.{length-append}
use Rattle.std.proofs.lemmas.List.Sums.{sum_by-cons}
use Rattle.line_text.specs.Rules.{was_read, last_item}
use Rattle.type_table.specs.declared.table_kind.TableKind.TheVariants.{Undo, Intentions}
use Rattle.declared_types.specs.declared.type_file.TypeFile.{TypeFile}
use Rattle.type_text.specs.declared.type_line.TypeLine.{TypeLine}
use Rattle.type_text.specs.declared.type_line.TypeLine.TheVariants.{TypeName, States, Initial, Operation, Conflict}
use Rattle.type_text.specs.TypeLines.{rank_of, ops_of, op_count, states_of, type_rules}

-- the first three lines of a file's text, and more
abbrev pub front : TypeFile → List TypeLine → List TypeLine
front file more = TypeName file.table.name ∷ States file.table.states ∷ Initial file.table.initial ∷ more

-- what is known of the lines in front, as far as a line's range depends on them
pub record AreCounted (file : TypeFile) (before : List TypeLine) : Type 0 where
  pub states : states_of before ≡ file.table.states
  pub ops : op_count before ≡ length file.table.ops

-- an `op` line counts as one
pub op_count-length : (lines : List TypeLine) → op_count lines ≡ length (ops_of lines)
op_count-length [] = refl
op_count-length (Operation op ∷ lines) = let more : 1 + op_count lines ≡ suc (length (ops_of lines)) = omega (arith, op_count-length lines) in sum_by-cons (λ x. cond (eqb (rank_of x) 3) 1 0) (Operation op) lines ∙ more
op_count-length (Conflict Undo p q ∷ lines) = op_count-length lines
op_count-length (Conflict Intentions p q ∷ lines) = op_count-length lines
op_count-length (x ∷ lines) = op_count-length lines

-- the first lines and the operations say the numbers of states and operations
pub front_counted : (file : TypeFile) (more : List TypeLine) → ops_of more ≡ file.table.ops → AreCounted file (front file more)
front_counted file more e = record { states = refl; ops = op_count-length (front file more) ∙ ap length e }

-- how many lines are of a rank
abbrev count : ℕ → List TypeLine → ℕ
count rank lines = sum_by (λ x. cond (eqb (rank_of x) rank) 1 0) lines

-- one more line in front
count-cons : (rank : ℕ) (x : TypeLine) (lines : List TypeLine) → count rank (x ∷ lines) ≡ cond (eqb (rank_of x) rank) 1 0 + count rank lines
count-cons rank x lines = sum_by-cons (λ y. cond (eqb (rank_of y) rank) 1 0) x lines

-- the first lines were read
pub first_read : (file : TypeFile) (more : List TypeLine) → was_read type_rules (front file more) 0 ≡ true
first_read file more = let rest = States file.table.states ∷ Initial file.table.initial ∷ more in lt-ltb 0 (count 0 (front file more)) (omega (arith, count-cons 0 (TypeName file.table.name) rest))

-- so has the second
pub second_read : (file : TypeFile) (more : List TypeLine) → was_read type_rules (front file more) 1 ≡ true
second_read file more = let rest = Initial file.table.initial ∷ more in lt-ltb 0 (count 1 (front file more)) (omega (arith, count-cons 1 (TypeName file.table.name) (States file.table.states ∷ rest), count-cons 1 (States file.table.states) rest))

-- and the third
pub third_read : (file : TypeFile) (more : List TypeLine) → was_read type_rules (front file more) 2 ≡ true
third_read file more =
    let last = Initial file.table.initial ∷ more in
    let rest = States file.table.states ∷ last in
    lt-ltb 0 (count 2 (front file more)) (omega (arith, count-cons 2 (TypeName file.table.name) rest, count-cons 2 (States file.table.states) last, count-cons 2 (Initial file.table.initial) more))

-- the sections that must be there were read
pub front_read : (file : TypeFile) (more : List TypeLine) → ops_of more ≡ file.table.ops → 0 < length file.table.ops → (k : ℕ) → k < 4 → was_read type_rules (front file more) k ≡ true
front_read file more e some zero h = first_read file more
front_read file more e some (suc zero) h = second_read file more
front_read file more e some (suc (suc zero)) h = third_read file more
front_read file more e some (suc (suc (suc zero))) h = lt-ltb 0 (count 3 (front file more)) (omega (arith, op_count-length (front file more), ap length e, some))
front_read file more e some (suc (suc (suc (suc k)))) h = absurd (omega (arith, h))

-- the element after others
slice_get_behind : (lines : List TypeLine) (x : TypeLine) → slice_get (lines ++ x ∷ []) (length lines) ≡ Some x
slice_get_behind [] x = refl
slice_get_behind (y ∷ lines) x = slice_get_behind lines x

-- the last of some lines is the one that was put after the others
pub last_push : (lines : List TypeLine) (x : TypeLine) → last_item (lines ++ x ∷ []) ≡ Some x
last_push lines x =
    let place : length (lines ++ x ∷ []) - 1 ≡ length lines = omega (arith, length-append lines (x ∷ [])) in
    ap (slice_get (lines ++ x ∷ [])) place ∙ slice_get_behind lines x
