-- An object's row from its columns.
use Rattle.std.proofs.Common.{◌≡◌, ℕ, Bool, true, false, cond, List, [], ◌∷◌, drop, length, Option, Some, None, refl, arith}
use Rattle.std.specs.Prelude.{pos, IfSome}
use Rattle.sqlite_value.specs.declared.value.Value.TheVariants.{Null, Int, Text}
use Rattle.sqlite_value.specs.Order.{Row, column}
use Rattle.type_table.specs.Kind.{kind_word}
use Rattle.store_text.specs.declared.line.ObjectLine.{ObjectLine}
use Rattle.journal.specs.ObjectRows.{ToldObject, name_columns, object_row}

pub row_is : (row rest : Row) (p : ℕ) (kind : List ℕ) (file : ℕ) → column row 0 ≡ Int (pos p) → column row 1 ≡ Null → column row 2 ≡ Text kind → column row 3 ≡ Int (pos file) → drop 4 row ≡ rest
    → row ≡ Int (pos p) ∷ Null ∷ Text kind ∷ Int (pos file) ∷ rest
row_is [] rest p kind file at own its place more = absurd cc
row_is (a ∷ []) rest p kind file at own its place more = absurd cc
row_is (a ∷ b ∷ []) rest p kind file at own its place more = absurd cc
row_is (a ∷ b ∷ c ∷ []) rest p kind file at own its place more = absurd cc
row_is (a ∷ b ∷ c ∷ d ∷ row) rest p kind file at own its place more = cc

-- a row of four columns has none behind them
pub no_more : (row : Row) → length row ≡ 4 → drop 4 row ≡ []
no_more [] e = refl
no_more (a ∷ []) e = refl
no_more (a ∷ b ∷ []) e = refl
no_more (a ∷ b ∷ c ∷ []) e = refl
no_more (a ∷ b ∷ c ∷ d ∷ []) e = refl
no_more (a ∷ b ∷ c ∷ d ∷ x ∷ row) e = absurd (omega (arith, e))

-- and one of five has its last
pub one_more : (row : Row) (name : List ℕ) → length row ≡ 5 → column row 4 ≡ Text name → drop 4 row ≡ Text name ∷ []
one_more [] name e at = absurd cc
one_more (a ∷ []) name e at = absurd cc
one_more (a ∷ b ∷ []) name e at = absurd cc
one_more (a ∷ b ∷ c ∷ []) name e at = absurd cc
one_more (a ∷ b ∷ c ∷ d ∷ []) name e at = absurd cc
one_more (a ∷ b ∷ c ∷ d ∷ x ∷ []) name e at = cc
one_more (a ∷ b ∷ c ∷ d ∷ x ∷ y ∷ row) name e at = absurd (omega (arith, e))

-- the name in its last column
pub named : (row : Row) (text : List ℕ) (found : Option (List ℕ)) (is_name : Bool) → length row ≡ 5 → column row 4 ≡ Text text → found ≡ cond is_name (Some text) None → IfSome found (λ name. drop 4 row ≡ Text name ∷ [])
named row text None is_name e at is = tt
named row text (Some name) true e at is = let same : name ≡ text = cc in rw same (one_more row text e at)
named row text (Some name) false e at is = absurd cc

-- a row at a position whose columns say an object is the object's
pub told_row : (row : Row) (p : ℕ) (found : Option ObjectLine) → column row 0 ≡ Int (pos p) → column row 1 ≡ Null → IfSome found (λ o. ToldObject row o) → IfSome found (λ o. row ≡ object_row p o)
told_row row p None at own told = tt
told_row row p (Some o) at own told = row_is row (name_columns o.name) p (kind_word o.kind) o.file at own told.kind told.file told.name
