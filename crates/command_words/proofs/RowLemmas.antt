-- The row of an argument, among the rows that a walk holds.
use Rattle.std.proofs.Common.{◌≡◌, ◌∙◌, ◌++◌, ap, refl, sym, true, false, List, [], ◌∷◌}
use Rattle.std.specs.Prelude.{Option, Some, None, find, is_some}
use Rattle.std.specs.Str.{bytes_eq}
use Rattle.std.specs.Cmp.Lexicographic.{same_text}
use Rattle.clap.specs.Walk.{Row, has_row, stronger, with_values, without}
use Rattle.clap.specs.declared.builder.value_parser.Reading.{Reading}
use Rattle.clap.specs.declared.parser.matches.ValueSource.{ValueSource}
use Rattle.command_words.specs.Words.{Text}
use Rattle.command_words.proofs.OptionLemmas.{by_test}

-- the row of an argument
abbrev pub row_at : Text → List Row → Option Row
row_at id rows = find (λ r. bytes_eq r.id id) rows

-- it has one
pub has_row_at : (id : Text) (rows : List Row) → has_row id rows ≡ is_some (row_at id rows)
has_row_at id [] = refl
has_row_at id (r ∷ rows) = by_test (bytes_eq r.id id) (λ same. simp same refl) (λ other. simp other (has_row_at id rows))

-- where it has none, none is taken out
pub none_without : (id : Text) (rows : List Row) → row_at id rows ≡ None → without id rows ≡ rows
none_without id [] none = refl
none_without id (r ∷ rows) none = by_test (bytes_eq r.id id)
    (λ same. let found : Some r ≡ None = simp same at none in absurd cc)
    (λ other. simp other (ap (λ (rs : List Row). r ∷ rs) (none_without id rows (simp other at none))))

-- the row with more values
abbrev pub joined_row : Text → Reading → ValueSource → List Text → Option Row → Row
joined_row id how source values None = record { id = id; values = values; count = None; source = Some source; reading = how }
joined_row id how source values (Some r) = record r { values = r.values ++ values; source = Some (stronger r.source source) }

-- the row of the argument that gets values
pub row_joined : (id : Text) (how : Reading) (source : ValueSource) (values : List Text) (rows : List Row) → bytes_eq id id ≡ true
    → row_at id (with_values id how source values rows) ≡ Some (joined_row id how source values (row_at id rows))
row_joined id how source values [] self = simp self refl
row_joined id how source values (r ∷ rows) self = by_test (bytes_eq r.id id)
    (λ same. simp same refl) (λ other. simp other (row_joined id how source values rows self))

-- and of another one
pub row_kept : (id kept : Text) (how : Reading) (source : ValueSource) (values : List Text) (rows : List Row) → bytes_eq id kept ≡ false
    → row_at kept (with_values id how source values rows) ≡ row_at kept rows
row_kept id kept how source values [] differs = simp differs refl
row_kept id kept how source values (r ∷ rows) differs = by_test (bytes_eq r.id id)
    (λ same.
    let unlike : bytes_eq r.id kept ≡ false = ap (λ (i : Text). bytes_eq i kept) (same_text r.id id (sym same)) ∙ differs in
    simp (same, unlike) refl)
    (λ other. by_test (bytes_eq r.id kept) (λ found. simp (other, found) refl) (λ missed. simp (other, missed) (row_kept id kept how source values rows differs)))
