-- What the words of a line are to be: the pieces of which a grammar makes its items.
use Rattle.std.specs.Prelude.{ℕ, Bool, List, [], length, ◌==◌, if◌then◌else◌, slice_index_or, Option, Some, None, Result, Ok, Err}
use Rattle.std.specs.Str.{bytes_eq}
use Rattle.decimals.specs.Decimals.{number_of}
use Rattle.line_text.specs.declared.fault.FaultKind.{FaultKind}
use Rattle.line_text.specs.declared.fault.FaultKind.TheVariants.{UnknownWord, BadNumber}
use Rattle.type_table.specs.Name.{is_name}
use Rattle.type_table.specs.Kind.{kind_of, table_kind_of}
use Rattle.type_table.specs.declared.kind.Kind.{Kind}
use Rattle.type_table.specs.declared.table_kind.TableKind.{TableKind}

infixl 10 ◌>>=◌
-- a step after one that may fail, as `?` makes it
abbrev pub ◌>>=◌ : {A B : Type 0} → Result A FaultKind → (A → Result B FaultKind) → Result B FaultKind
(Ok x) >>= f = f x
(Err e) >>= f = Err e

-- the word at a place, where there is one
abbrev pub word : List (List ℕ) → ℕ → List ℕ
word words place = slice_index_or words place []

-- a line has this many words, its keyword among them
unfoldable pub exactly : List (List ℕ) → ℕ → Result (Unit {0}) FaultKind
exactly words count = if length words == count then Ok tt else Err UnknownWord

-- the value, or a fault where there is none
abbrev pub or_kind : {A : Type 0} → FaultKind → Option A → Result A FaultKind
or_kind kind None = Err kind
or_kind kind (Some x) = Ok x

-- the number at a place
unfoldable pub number_at : List (List ℕ) → ℕ → Result ℕ FaultKind
number_at words place = or_kind BadNumber (number_of (word words place))

-- the name at a place
unfoldable pub name_at : List (List ℕ) → ℕ → Result (List ℕ) FaultKind
name_at words place = if is_name (word words place) then Ok (word words place) else Err UnknownWord

-- the recovery kind at a place
unfoldable pub kind_at : List (List ℕ) → ℕ → Result Kind FaultKind
kind_at words place = or_kind UnknownWord (kind_of (word words place))

-- and one with a conflict table
unfoldable pub table_kind_at : List (List ℕ) → ℕ → Result TableKind FaultKind
table_kind_at words place = or_kind UnknownWord (table_kind_of (word words place))

-- whether the first word is this keyword
unfoldable pub is_key : List (List ℕ) → List ℕ → Bool
is_key words key = bytes_eq (word words 0) key
